-- `frame_list::put_entry` meets its contract. Assumes nothing.
use Prim.Native.Nat.{ℕ, ◌+◌}
use mathlib.Core.Path.{ap, ◌∙◌}
use mathlib.Core.List.{◌++◌}
use lib.ListN.{take, drop}
use Rattle.bits.specs.Bits.{bit, cut}
use Rattle.lent_words.specs.Words.{flag_word}
use Rattle.frame_list.proofs.Listing.{put_three}
use Rattle.frame_list.proofs.put_entry.Goals as goal

pub returns : goal.returns
returns c =
    let args = c.args in
    let pre = c.requires in
    let store-half = c.store_half in
    let store-half2 = c.store_half-2 in
    let flag = c.flag in
    let store-half3 = c.store_half-3 in
    let v = ap (λ (n : ℕ). take (args.at + 8) store-half2.new.room ++ cut 8 (bit n) 4 ++ drop (args.at + 8 + 4) store-half2.new.room) flag.ensures in
    put_three args.list.now store-half.new.room store-half2.new.room store-half3.new.room args.at args.word args.frame.octets (flag_word args.frame.good) pre store-half.ensures store-half2.ensures (store-half3.ensures ∙ v)
