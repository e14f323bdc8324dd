-- Demand 1 of reading a record.
use Rattle.std.specs.Prelude.{ℕ, ◌+◌, ◌≤◌, ◌<◌, ◌≡◌, List, Option, Result, ◌⊎◌, length}
use Rattle.refusals.specs.First.{Check}
use Rattle.refusals.specs.Outcome.{Outcome}
use Rattle.records.specs.Record.{body_limit, two_at, read_checks, whole, end, refused, answer_of, Finds}
use Rattle.refusals.specs.declared.Refused.{Refused}
use Rattle.records.specs.declared.Record.{Record}

-- What a call came to that looks at a place of a file: a place at or past its end is a plain end of records, and no refusal is looked at.
abbrev pub OutcomeAt : {A : Type 0} (file : List ℕ) (place : ℕ) (ending : A) (checks : List Check) (came success : A) (refusal : (number at : ℕ) → A) → Type 0
OutcomeAt file place ending checks came success refusal =
    ((length file ≤ place) × (came ≡ ending)) ⊎ ((place < length file) × Outcome checks came success refusal)

-- reading
abbrev pub Demand1OfRead : Type 0
Demand1OfRead =
    (file : List ℕ) (place : ℕ) (r : Result (Option Record) Refused) → Finds file place r
    → OutcomeAt file place end (read_checks body_limit file place) (answer_of r)
    (whole (two_at file (place + 2)) (place + 4) (two_at file place) (place + 4 + two_at file place)) refused
