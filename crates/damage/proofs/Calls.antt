-- Demand 3 of the functions: what follows from the promises of `send` and `receive`. Assumes nothing.
use mathlib.Core.Path.{◌≡◌, sym, ap, ◌∙◌, subst}
use mathlib.Core.List.{List, [], ◌++◌}
use Prim.Native.Nat.{ℕ, ◌*◌, ◌/◌, ◌≤◌, ◌<◌}
use native.Mathlib.Omega.{arith}
use lib.Dec.{T}
use lib.ListN.{length, get_or, drop}
use Rattle.bits.specs.Bits.{line_bit}
use Rattle.bits.proofs.Laws.{length_cut}
use Rattle.register.specs.Register.{flip}
use Rattle.block.specs.Block.{edition_of, vectors_in}
use Rattle.bits.proofs.Tests.{all}
use Rattle.block.proofs.Near.{apart}
use Rattle.std.specs.Prelude.{Result, Ok}
use Rattle.refusals.specs.declared.Refused.{Refused}
use Rattle.refusals.specs.First.{Verdict, first, accepted, by_verdict}
use Rattle.block.proofs.Vectors.{length_vectors, vectors_in_lem}
use Rattle.receiving.proofs.Tens.{vectors_tens}
use Rattle.transmit.specs.Send.{error_block, blocks_for, sent_line}
use Rattle.sending.specs.Answer.{Sends}
use Rattle.sending.specs.declared.Sending.{Sending}
use Rattle.receiving.specs.Receive.{vectors_of, received_vectors}
use Rattle.receiving.specs.Answer as Receiving
use Rattle.receiving.specs.Answer.{Receives}
use Rattle.receiving.specs.declared.Summary.{Summary}
use Rattle.demands.specs.Words.{SendAccepts, Unbroken}
use Rattle.demands.proofs.Accepted.{known, not_long}
use Rattle.demands.proofs.Calls.{done_accepts, length_sent, line_stands, received_too}
use Rattle.damage.specs.Damage.{damaged, Flips}
use Rattle.damage.specs.Demand3.{most_flips, Answered, Survived, line_in, Demand3OfCalls}
use Rattle.damage.proofs.Demand3.{tested, outlived, more_apart}

-- ---- what `receive` leaves

module _ (edition : ℕ) (line out : List ℕ) (r : Result Summary Refused) (out' : List ℕ) (receives : Receives edition line out r out')
    (ok : first (Receiving.receive_checks edition (length line) (length out)) ≡ accepted) where
  -- what is then answered
  answer_is : Receiving.answer_of r ≡ Receiving.received (Receiving.summary_of (edition_of edition) line)
  unfolding Receiving.receive_answer
  answer_is = receives.0 ∙ ap (λ (v : Verdict). by_verdict v (Receiving.received (Receiving.summary_of (edition_of edition) line)) Receiving.refused) ok

  -- its vectors stand at the start of the room
  vectors_stand : vectors_in (length (vectors_of (edition_of edition) line)) out' ≡ vectors_of (edition_of edition) line
  unfolding Receiving.receive_room received_vectors
  vectors_stand =
      ap (vectors_in (length (vectors_of (edition_of edition) line)))
      (receives.1
      ∙ ap (λ (v : Verdict). by_verdict v (received_vectors (edition_of edition) line ++ drop (length (received_vectors (edition_of edition) line)) out) (λ number place. out)) ok)
      ∙ vectors_in_lem (vectors_of (edition_of edition) line) (drop (length (received_vectors (edition_of edition) line)) out) (vectors_tens (edition_of edition) line)

-- ---- the demand

-- a damaged line is as long as the line
length_damaged : (line : List ℕ) (f : ℕ → ℕ) → length (damaged line f) ≡ length line
unfolding damaged
length_damaged line f = length_cut 8 (length line) (flip (line_bit line) f)

module _ (edition most : ℕ) (far : T (all (apart (edition_of edition) most))) (small : most < 16) (bytes : List ℕ) (start : ℕ) (room room' : List ℕ) (s : Sending)
    (sends : Sends edition bytes start room (Ok s) room') (f : ℕ → ℕ) (flips : Flips most (line_in room' bytes) f) (out out' : List ℕ) (r : Result Summary Refused)
    (receives : Receives edition (damaged (line_in room' bytes) f) out r out') (enough : length bytes ≤ length out) where
  -- the list was accepted, and its line stands in the room
  ok : SendAccepts edition bytes start (length room)
  ok = done_accepts edition bytes start (length room) s sends.0

  stands : line_in room' bytes ≡ sent_line (edition_of edition) bytes start
  stands = line_stands edition bytes start room room' s sends

  -- the flips, and what is received, are of the line that was sent
  flips_line : Flips most (sent_line (edition_of edition) bytes start) f
  flips_line = subst (λ (line : List ℕ). Flips most line f) stands flips

  -- the damaged line
  abbrev line : List ℕ
  line = damaged (sent_line (edition_of edition) bytes start) f

  -- 33 bytes a group
  size : length line ≡ 33 * (length bytes / 40)
  size = length_damaged (sent_line (edition_of edition) bytes start) f ∙ length_sent edition bytes start

  receives_line : Receives edition line out r out'
  receives_line = subst (λ (l : List ℕ). Receives edition (damaged l f) out r out') stands receives

  -- it is received
  too : first (Receiving.receive_checks edition (length line) (length out)) ≡ accepted
  too =
      received_too edition (length line) (length out) (known edition bytes start (length room) ok) (omega (arith, size, not_long edition bytes start (length room) ok))
      (subst (λ (n : ℕ). 10 * (8 * n / 66) ≤ length out) (sym size) (omega (arith, enough)))

  -- what `receive` answers
  answer_called : Receiving.answer_of r ≡ Receiving.received (Receiving.summary_of (edition_of edition) (damaged (line_in room' bytes) f))
  answer_called =
      answer_is edition line out r out' receives_line too ∙ ap (λ (l : List ℕ). Receiving.received (Receiving.summary_of (edition_of edition) (damaged l f))) (sym stands)

  module _ (long : 63 < length (blocks_for (edition_of edition) bytes)) where
    -- its values, and the vectors that it leaves
    values_called : Unbroken (length (blocks_for (edition_of edition) bytes)) (Receiving.summary_of (edition_of edition) (damaged (line_in room' bytes) f))
    values_called =
        subst (λ (l : List ℕ). Unbroken (length (blocks_for (edition_of edition) bytes)) (Receiving.summary_of (edition_of edition) (damaged l f))) (sym stands)
        (tested edition most far small bytes start (length room) ok f flips_line long)

    vectors_called : vectors_in (length (blocks_for (edition_of edition) bytes)) out' ≡ vectors_of (edition_of edition) line
    vectors_called =
        ap (λ (n : ℕ). vectors_in n out') (sym ((outlived edition most far small bytes start (length room) ok f flips_line).one_each long))
        ∙ vectors_stand edition line out r out' receives_line too

  -- both, as the demand has them
  called : (Receiving.answer_of r ≡ Receiving.received (Receiving.summary_of (edition_of edition) (damaged (line_in room' bytes) f)))
      × (63 < length (blocks_for (edition_of edition) bytes) → Unbroken (length (blocks_for (edition_of edition) bytes)) (Receiving.summary_of (edition_of edition) (damaged (line_in room' bytes) f)))
      × Survived (edition_of edition) f (blocks_for (edition_of edition) bytes) (vectors_in (length (blocks_for (edition_of edition) bytes)) out')
  called = (
    answer_called,
    values_called,
    record {
      one_each = λ long. length_vectors (length (blocks_for (edition_of edition) bytes)) out';
      from_63 = λ k late inside.
          subst (λ (vs : List (List ℕ)). Answered (edition_of edition) f k (get_or (blocks_for (edition_of edition) bytes) k error_block) (get_or vs k [])) (sym (vectors_called (omega arith)))
          ((outlived edition most far small bytes start (length room) ok f flips_line).from_63 k late inside);
    },
  )

-- for any number of flips below 16 that the distances exceed, and for those of each edition
pub calls_of : (edition most : ℕ) → T (all (apart (edition_of edition) most)) → most < 16 → Demand3OfCalls edition most
calls_of edition most far small bytes start room room' s sends f flips out out' r receives enough =
    called edition most far small bytes start room room' s sends f flips out out' r receives enough

pub demand_3_of_calls : (edition : ℕ) → Demand3OfCalls edition (most_flips (edition_of edition))
demand_3_of_calls edition = let m = more_apart (edition_of edition) in calls_of edition (most_flips (edition_of edition)) m.0 m.1
