-- Demand 1 of writing a record, proved over the definitions. Assumes nothing.
use Prim.Native.Nat.{ℕ, ◌+◌}
use mathlib.Core.Path.{◌≡◌, ap, ◌∙◌}
use mathlib.Core.List.{List, ◌++◌}
use native.Mathlib.Omega.{arith}
use lib.ListN.{length, drop}
use Rattle.refusals.specs.First.{first, by_verdict}
use Rattle.refusals.proofs.Outcome.{outcome_in_room}
use Rattle.record_writing.specs.Writing.{limit_kept, write_checks, record_of, write_answer, written_room}
use Rattle.record_writing.specs.Demand1.{Demand1OfWrite}

-- The room afterwards, by the length of the record that went to it.
pub room_by_record : (limit kind : ℕ) (body room : List ℕ)
    → written_room limit kind body room
    ≡ by_verdict (first (write_checks limit kind body (length room))) (record_of kind body ++ drop (length (record_of kind body)) room) (λ number place. room)
unfolding written_room
room_by_record limit kind body room =
    let long : length body + 4 ≡ length (record_of kind body) = omega arith in
    ap (λ (n : ℕ). by_verdict (first (write_checks limit kind body (length room))) (record_of kind body ++ drop n room) (λ number place. room)) long

pub demand_1_of_write : Demand1OfWrite
unfolding write_answer
demand_1_of_write kind body wide room r room' p =
    outcome_in_room (write_checks (limit_kept wide) kind body (length room)) _ _ _ _ (record_of kind body) room p.0
    (p.1 ∙ room_by_record (limit_kept wide) kind body room)
