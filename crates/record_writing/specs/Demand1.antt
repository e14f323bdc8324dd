-- Demand 1 of writing a record.
use Rattle.std.specs.Prelude.{ℕ, ◌+◌, List, Bool, Result, length}
use Rattle.refusals.specs.Outcome.{OutcomeInRoom}
use Rattle.record_writing.specs.Writing.{limit_kept, write_checks, record_of, wrote, unwritten, write_answer_of, Writes}
use Rattle.refusals.specs.declared.Refusal.{Refusal}

abbrev pub Demand1OfWrite : Type 0
Demand1OfWrite =
    (kind : ℕ) (body : List ℕ) (wide : Bool) (room : List ℕ) (r : Result ℕ Refusal) (room' : List ℕ) → Writes kind body wide room r room'
    → OutcomeInRoom (write_checks (limit_kept wide) kind body (length room)) (write_answer_of r) room' (wrote (length body + 4)) (record_of kind body) room unwritten
