-- The loop over the groups. Assumes nothing.
use Prim.Native.Nat.{ℕ, ◌+◌, ◌*◌, ◌/◌, ◌^◌, ◌≤◌, ◌<◌}
use mathlib.Core.Path.{◌≡◌, refl, sym, ap, ap₂, ◌∙◌, subst}
use mathlib.Core.List.{List, ◌++◌}
use native.Mathlib.Omega.{arith}
use lib.ListN.{length, take, drop}
use lib.Seq.{take_at, drop_at, drop-drop}
use Rattle.bits.specs.Bits.{stream_bit, cut}
use Rattle.bits.proofs.Laws.{length_cut}
use Rattle.bits.proofs.Lists.{cut_join}
use Rattle.block.specs.declared.Edition.{Edition}
use Rattle.block.specs.Block.{vectors_in}
use Rattle.block.proofs.Vectors.{vectors_add, length_vectors}
use Rattle.transmit.specs.Send.{sent_blocks, line_words}
use Rattle.transmit.specs.declared.Sender.{Sender}
use Rattle.groups.specs.declared.Group.{Group}
use Rattle.transmit.specs.Steps.{SentAs}
use Rattle.groups.specs.Four.{group_words, SentFour}
use Rattle.sending.specs.Whole.{words_for}
use Rattle.transmit.proofs.Laws.{sends_none, sends_join, sends_few, sends_history, sends_length}

-- the line of words in groups of four
abbrev pub line_of : List ℕ → ℕ → List ℕ
line_of words g = cut 8 (stream_bit 66 words) (33 * g)

module _ (ed : Edition) where
  -- After g groups their line is at the start of the room, and the rest of the room is as it was.
  pub record SentSofar (s : Sender) (bytes before after : List ℕ) (next : Sender) (g : ℕ) : Type 0 where
    pub upto : g ≤ length bytes / 40
    pub sends : SentAs ed s (vectors_in (4 * g) bytes) (words_for ed s (vectors_in (4 * g) bytes)) next
    pub room : after ≡ line_of (words_for ed s (vectors_in (4 * g) bytes)) g ++ drop (33 * g) before

  pub first : (s : Sender) (bytes before : List ℕ) → SentSofar s bytes before before s 0
  unfolding vectors_in cut line_words sent_blocks
  first s bytes before = record { upto = omega arith; sends = sends_none ed s; room = refl }

  module _ (s : Sender) (bytes before after : List ℕ) (next : Sender) (g : ℕ) (inv : SentSofar s bytes before after next g) where
    pub few : next.replaced ≤ s.replaced + 4 * g
    few = omega (arith, sends_few ed s next (vectors_in (4 * g) bytes) _ inv.sends, length_vectors (4 * g) bytes)

    pub small : s.history < 2 ^ 58 → next.history < 2 ^ 58
    small l = sends_history ed s next (vectors_in (4 * g) bytes) _ inv.sends l

    abbrev words : List ℕ
    words = words_for ed s (vectors_in (4 * g) bytes)

    length_words : length words ≡ 4 * g
    length_words = sends_length ed s next (vectors_in (4 * g) bytes) words inv.sends ∙ length_vectors (4 * g) bytes

    taken : take (33 * g) after ≡ line_of words g
    taken = ap (take (33 * g)) inv.room ∙ take_at (line_of words g) (drop (33 * g) before) (33 * g) (length_cut 8 (33 * g) (stream_bit 66 words))

    dropped : drop (33 * g + 33) after ≡ drop (33 * g + 33) before
    dropped =
        sym (drop-drop 33 (33 * g) after)
        ∙ ap (drop 33) (ap (drop (33 * g)) inv.room ∙ drop_at (line_of words g) (drop (33 * g) before) (33 * g) (length_cut 8 (33 * g) (stream_bit 66 words)))
        ∙ drop-drop 33 (33 * g) before

    joined : (four : List ℕ) → line_of words g ++ cut 8 (stream_bit 66 four) 33 ≡ line_of (words ++ four) (g + 1)
    joined four =
        let e : 33 * g + 33 ≡ 33 * (g + 1) = omega arith in
        sym (cut_join 66 8 (33 * g) 33 words four (omega arith) (omega (arith, length_words)))
        ∙ ap (cut 8 (stream_bit 66 (words ++ four))) e

    pub turn : (r : Group) (room : List ℕ) → g < length bytes / 40 → SentFour ed next (vectors_in 4 (drop (40 * g) bytes)) r
        → room ≡ take (33 * g) after ++ cut 8 (stream_bit 66 (group_words r.a r.b r.c r.d)) 33 ++ drop (33 * g + 33) after
        → SentSofar s bytes before room r.next (g + 1)
    turn r room l group e =
        let four = group_words r.a r.b r.c r.d in
        let d : 10 * (4 * g) ≡ 40 * g = omega arith in
        let n : 4 * g + 4 ≡ 4 * (g + 1) = omega arith in
        let m : 33 * g + 33 ≡ 33 * (g + 1) = omega arith in
        let v : vectors_in (4 * g) bytes ++ vectors_in 4 (drop (40 * g) bytes) ≡ vectors_in (4 * (g + 1)) bytes =
        ap (λ (i : ℕ). vectors_in (4 * g) bytes ++ vectors_in 4 (drop i bytes)) (sym d) ∙ sym (vectors_add (4 * g) 4 bytes) ∙ ap (λ (i : ℕ). vectors_in i bytes) n in
        let j : SentAs ed s (vectors_in (4 * (g + 1)) bytes) (words ++ four) r.next =
        subst (λ (vs : List (List ℕ)). SentAs ed s vs (words ++ four) r.next) v (sends_join ed s next r.next _ _ words four inv.sends group.sends) in
        record {
          upto = omega arith;
          sends = subst (λ (ws : List ℕ). SentAs ed s (vectors_in (4 * (g + 1)) bytes) ws r.next) j.line j;
          room =
              e
              ∙ ap₂ (λ (x y : List ℕ). x ++ cut 8 (stream_bit 66 four) 33 ++ y) taken dropped
              ∙ ap₂ (λ (x : List ℕ) (i : ℕ). x ++ drop i before) (joined four) m
              ∙ ap (λ (ws : List ℕ). line_of ws (g + 1) ++ drop (33 * (g + 1)) before) j.line;
        }
