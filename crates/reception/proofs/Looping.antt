-- The receiving loop, and its end: turns and stretches keep what is written and counted so far, with what the definition still gives from
-- here, and at the end of the line everything is settled. Assumes nothing.
use Prim.Native.Nat.{ℕ, ◌-◌, ◌+◌, ◌*◌, ◌≤◌}
use mathlib.Core.Path.{◌≡◌, refl, sym, ap, ◌∙◌}
use mathlib.Core.List.{List, [], ◌++◌, append-nil, flatten}
use native.Mathlib.Omega.{arith}
use lib.ListN.{length, take, drop, drop_of_length-le}
use lib.Seq.{drop-drop}
use Rattle.bits.specs.Bits.{line_bits}
use Rattle.bits.proofs.Lists.{length_line_bits}
use Rattle.carrying.specs.Carrying.{Sound}
use Rattle.receiving.specs.Machine.{run}
use Rattle.receiving.specs.Receive.{counts_of, handed_of}
use Rattle.receiving.specs.Parts.{no_counts, none_handed, settle}
use Rattle.receiving.specs.Ranges.{InRange}
use Rattle.receiving.specs.Loop.{held_in, feed_in, Upshot, upshot, Under, Turns, Stretches, Ends, written_by}
use Rattle.receiving.specs.declared.Receiver.{Receiver}
use Rattle.receiving.specs.declared.Progress.{Progress}
use Rattle.receiving.proofs.Counted.{count_end, count_first, within_none, hand_end, hand_first, handed_none, handed_wide}
use Rattle.receiving.proofs.Settle.{settle_last}

-- what holds at each turn, from the room and the receiver at the start
pub record Looping (line room₀ room : List ℕ) (p₀ p : Progress) : Type 0 where
  pub under : Under line room p
  pub same : upshot line room p ≡ upshot line room₀ p₀
  pub rest : drop p.at room ≡ drop p.at room₀
  pub len : length room ≡ length room₀

-- a receiver at the first bit of the line
abbrev pub begun : Receiver → Progress
begun r = record { receiver = r; pos = 0; at = 0; counts = no_counts; handed = none_handed }

-- it holds at the first turn
pub loop_first : (line room : List ℕ) (r : Receiver) → InRange r.link → Sound r.carried → length (written_by r line) ≤ length room
    → Looping line room room (begun r) (begun r)
unfolding upshot
loop_first line room r g s f =
    record {
      under =
          record { range = g; sound = s; pos = omega arith; at = omega arith; fits = f; counts = within_none 0; handed = handed_none 0 };
      same = refl;
      rest = refl;
      len = refl;
    }

-- a turn keeps it
pub loop_next : (line room₀ room room' : List ℕ) (p₀ p p' : Progress) → Looping line room₀ room p₀ p → Turns line room room' p p'
    → Looping line room₀ room' p₀ p'
loop_next line room₀ room room' p₀ p p' i t =
    let n : p'.at ≡ p.at + (p'.at - p.at) = omega (arith, t.grows) in
    record {
      under = t.under;
      same = t.same ∙ i.same;
      rest =
          t.rest ∙ ap (λ (j : ℕ). drop j room) n ∙ sym (drop-drop (p'.at - p.at) p.at room)
          ∙ ap (drop (p'.at - p.at)) i.rest ∙ drop-drop (p'.at - p.at) p.at room₀ ∙ sym (ap (λ (j : ℕ). drop j room₀) n);
      len = t.len ∙ i.len;
    }

-- a stretch in the receiving loop
pub loop_stretch : (line room₀ room room' : List ℕ) (p₀ p p' : Progress) → Looping line room₀ room p₀ p → Stretches line room room' p p'
    → Looping line room₀ room' p₀ p'
loop_stretch line room₀ room room' p₀ p p' i t =
    let n : p'.at ≡ p.at + (p'.at - p.at) = omega (arith, t.grows) in
    record {
      under = t.under;
      same = t.same ∙ i.same;
      rest =
          t.rest ∙ ap (λ (j : ℕ). drop j room) n ∙ sym (drop-drop (p'.at - p.at) p.at room)
          ∙ ap (drop (p'.at - p.at)) i.rest ∙ drop-drop (p'.at - p.at) p.at room₀ ∙ sym (ap (λ (j : ℕ). drop j room₀) n);
      len = t.len ∙ i.len;
    }

-- no bit is left
ended : (line room : List ℕ) (p : Progress) → 8 * length line ≤ p.pos
    → upshot line room p
    ≡ record { bytes = take p.at room ++ []; state = p.receiver.state; held = held_in p.receiver; counts = p.counts; handed = p.handed; end = feed_in p.receiver }
unfolding upshot held_in run flatten
ended line room p over =
    rw (drop_of_length-le (line_bits line) {i = p.pos} (omega (arith, length_line_bits line)), settle_last p.receiver.have p.receiver.state p.receiver.held, count_end p.counts, hand_end p.handed)

-- so at the end everything is settled
pub loop_ends : (line room₀ room : List ℕ) (r : Receiver) (p : Progress) → Looping line room₀ room (begun r) p → 8 * length line ≤ p.pos
    → Ends line room₀ room r p
unfolding upshot
loop_ends line room₀ room r p i over =
    let e = sym (ended line room p over) ∙ i.same in
    record {
      range = i.under.range;
      sound = i.under.sound;
      feed = ap (λ (o : Upshot). o.end) e;
      state = ap (λ (o : Upshot). o.state) e;
      held = ap (λ (o : Upshot). o.held) e;
      bytes = sym (append-nil (take p.at room)) ∙ ap (λ (o : Upshot). o.bytes) e;
      at = omega (arith, i.under.at, i.len);
      rest = i.rest;
      len = i.len;
      counts = ap (λ (o : Upshot). o.counts) e ∙ count_first (counts_of (run (feed_in r) (line_bits line)).tested);
      handed = ap (λ (o : Upshot). o.handed) e ∙ hand_first (handed_of (settle r.state (held_in r ++ (run (feed_in r) (line_bits line)).tested)).judged);
      few = handed_wide p.handed p.pos (8 * length line) i.under.handed i.under.pos;
    }
