-- What the whole list gives, as the definitions say it. Assumes nothing.
use Prim.Native.Nat.{ℕ, ◌*◌, ◌/◌}
use mathlib.Core.Path.{◌≡◌, ap, ◌∙◌}
use mathlib.Core.List.{List, ◌++◌}
use native.Mathlib.Nat.{zero-add}
use lib.ListN.{length, drop}
use Rattle.bits.proofs.Laws.{length_cut}
use Rattle.diagrams.specs.Diagram.{state_number}
use Rattle.diagrams.specs.declared.State.TheVariants.{Init}
use Rattle.scrambler.specs.Scrambler.{mirror}
use Rattle.block.specs.declared.Edition.{Edition}
use Rattle.block.specs.Block.{vector_list}
use Rattle.transmit.specs.Send.{blocks_for, sent_line, state_after, replaced, history_over}
use Rattle.sending.specs.Answer.{sent, sent_for}
use Rattle.transmit.specs.declared.Sender.{Sender}
use Rattle.sending.specs.Whole.{SentInto}

module _ (ed : Edition) where
  length_line : (bytes : List ℕ) (start : ℕ) → length (sent_line ed bytes start) ≡ 33 * (length bytes / 40)
  unfolding sent_line
  length_line bytes start = length_cut 8 (33 * (length bytes / 40)) _

  -- from INIT and the start state
  module _ (bytes before after : List ℕ) (start h : ℕ) (r : Sender) (e : h ≡ mirror start)
      (fills : SentInto ed (record { diagram = Init; history = h; replaced = 0 }) bytes before after r) where
    pub answered : (state diagram : ℕ) → state ≡ mirror r.history → diagram ≡ state_number r.diagram
        → sent state diagram r.replaced ≡ sent_for ed bytes start
    unfolding sent_for blocks_for
    answered state diagram p q =
        let s = fills.sends in
        let a : state ≡ mirror (history_over (mirror start) (blocks_for ed bytes)) = p ∙ ap mirror (s.history ∙ ap (λ (x : ℕ). history_over x (blocks_for ed bytes)) e) in
        let b : diagram ≡ state_number (state_after ed Init (vector_list bytes)) = q ∙ ap state_number s.diagram in
        let c : r.replaced ≡ replaced ed Init (vector_list bytes) = s.count ∙ zero-add _ in
        cc

    pub line_placed : after ≡ sent_line ed bytes start ++ drop (length (sent_line ed bytes start)) before
    unfolding sent_line blocks_for
    line_placed = rw (length_line bytes start, ← e) fills.room
