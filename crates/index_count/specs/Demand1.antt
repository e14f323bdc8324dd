-- Demand 1 of counting with an index.
use Rattle.std.specs.Prelude.{ℕ, ◌≡◌, List, length, Result}
use Rattle.refusals.specs.Outcome.{Outcome}
use Rattle.refusals.specs.declared.Refused.{Refused}
use Rattle.tally.specs.declared.Tally.{Tally}
use Rattle.index_count.specs.Answer.{refused, count_checks, counts_with, count_answer, answer_of}

abbrev pub Demand1OfCount : Type 0
Demand1OfCount =
    (bytes index : List ℕ) (a b : ℕ) (r : Result Tally Refused) → answer_of r ≡ count_answer bytes index a b
    → Outcome (count_checks bytes (length index) a b) (answer_of r) (counts_with bytes index a b) refused
