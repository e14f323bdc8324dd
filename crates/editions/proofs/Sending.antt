-- Sending in the old edition is what it was. Assumes nothing.
use mathlib.Core.Path.{◌≡◌, refl, ap, ap₂, ◌∙◌}
use mathlib.Core.Bool.{true}
use mathlib.Core.List.{List, [], ◌∷◌, ◌++◌}
use Prim.Native.Nat.{ℕ, ◌+◌, ◌*◌, ◌/◌}
use lib.ListN.{length, drop}
use Rattle.bits.specs.Bits.{stream_bit, cut}
use Rattle.refusals.specs.First.{first as first_of, by_verdict}
use Rattle.scrambler.specs.Scrambler.{mirror}
use Rattle.line.specs.declared.Block.{Block}
use Rattle.block.specs.declared.Edition.TheVariants.{Old}
use Rattle.block.specs.Block.{edition_of, vector_kind, carrier_kind, vector_list}
use Rattle.diagrams.specs.Diagram.{transmit_of, state_number}
use Rattle.diagrams.specs.declared.State.{State}
use Rattle.diagrams.specs.declared.State.TheVariants.{Init, Control, Data, Terminate, Error, LowPower}
use Rattle.diagrams.proofs.Laws.{never_low}
use Rattle.transmit.specs.Send.{own_block, block_in, replaced_in, state_after, replaced, sent_blocks, line_words, history_over, blocks_for, sent_line}
use Rattle.sending.specs.Answer.{SendAnswer, sent, refused, send_checks, sent_for, send_answer, send_room}
use Rattle.editions.specs.Before.{kind_before, step_before, block_before, state_before, replaced_before, blocks_before, sent_before, line_before, send_checks_before, send_answer_before, send_room_before}
use Rattle.editions.specs.Unchanged.{SendingUnchanged}
use Rattle.editions.proofs.OldKinds.{old_carrier, vector_kind_lem}
use Rattle.editions.proofs.Steps.{same_step, first}

-- ---- one vector

kind_same : (v : List ℕ) → vector_kind Old v ≡ kind_before v
unfolding vector_kind
kind_same v = ap carrier_kind (old_carrier v)

module _ (s : State) (v : List ℕ) (n : s ≡ LowPower → ⊥) where
  step_same : transmit_of s (vector_kind Old v) ≡ step_before s (kind_before v) true
  step_same = ap (transmit_of s) (kind_same v) ∙ same_step s (kind_before v) true n (vector_kind_lem v)

  step_on : step_before s (kind_before v) true ≡ LowPower → ⊥
  step_on e = never_low s (kind_before v) true (vector_kind_lem v) (same_step s (kind_before v) true n (vector_kind_lem v) ∙ e)

block_same : (s : State) (v : List ℕ) → (s ≡ LowPower → ⊥) → block_in Old s v ≡ block_before s v
unfolding block_in
block_same Init v n = ap own_block (old_carrier v)
block_same Control v n = ap own_block (old_carrier v)
block_same Data v n = ap own_block (old_carrier v)
block_same Terminate v n = ap own_block (old_carrier v)
block_same Error v n = refl
block_same LowPower v n = absurd (n refl)

-- ---- a list of vectors

state_same : (s : State) (vs : List (List ℕ)) → (s ≡ LowPower → ⊥) → state_after Old s vs ≡ state_before s vs
unfolding state_after state_before
state_same s [] n = refl
state_same s (v ∷ vs) n = ap (λ (z : State). state_after Old z vs) (step_same s v n) ∙ state_same (step_before s (kind_before v) true) vs (step_on s v n)

replaced_same : (s : State) (vs : List (List ℕ)) → (s ≡ LowPower → ⊥) → replaced Old s vs ≡ replaced_before s vs
unfolding replaced replaced_before
replaced_same s [] n = refl
replaced_same s (v ∷ vs) n =
    ap (λ (z : State). replaced_in z + replaced Old z vs) (step_same s v n)
    ∙ ap (λ (m : ℕ). replaced_in (step_before s (kind_before v) true) + m) (replaced_same (step_before s (kind_before v) true) vs (step_on s v n))

blocks_same : (s : State) (vs : List (List ℕ)) → (s ≡ LowPower → ⊥) → sent_blocks Old s vs ≡ blocks_before s vs
unfolding sent_blocks blocks_before
blocks_same s [] n = refl
blocks_same s (v ∷ vs) n =
    ap (λ (z : State). block_in Old z v ∷ sent_blocks Old z vs) (step_same s v n)
    ∙ ap₂ (λ (b : Block) (bs : List Block). b ∷ bs) (block_same (step_before s (kind_before v) true) v (step_on s v n)) (blocks_same (step_before s (kind_before v) true) vs (step_on s v n))

-- ---- vector bytes and a start state

module _ (bytes : List ℕ) (start : ℕ) where
  pub sent_same : sent_for Old bytes start ≡ sent_before bytes start
  unfolding sent_for blocks_for
  sent_same =
      λ i. sent (mirror (history_over (mirror start) (blocks_same Init (vector_list bytes) first i))) (state_number (state_same Init (vector_list bytes) first i)) (replaced_same Init (vector_list bytes) first i)

  line_same : sent_line Old bytes start ≡ line_before bytes start
  unfolding sent_line blocks_for
  line_same = ap (λ (bs : List Block). cut 8 (stream_bit 66 (line_words (mirror start) bs)) (33 * (length bytes / 40))) (blocks_same Init (vector_list bytes) first)

  answer_same : (room : ℕ) → send_answer 0 bytes start room ≡ send_answer_before bytes start room
  unfolding send_answer send_checks send_answer_before edition_of first_of
  answer_same room = ap (λ (a : SendAnswer). by_verdict (first_of (send_checks_before bytes start room)) a refused) sent_same

  pub room_same : (room : List ℕ) → send_room 0 bytes start room ≡ send_room_before bytes start room
  unfolding send_room send_checks send_room_before edition_of first_of
  room_same room =
      ap (λ (line : List ℕ). by_verdict (first_of (send_checks_before bytes start (length room))) (line ++ drop (length line) room) (λ number place. room)) line_same

pub sending_unchanged : SendingUnchanged
sending_unchanged bytes start room r room' p = (p.0 ∙ answer_same bytes start (length room), p.1 ∙ room_same bytes start room)
