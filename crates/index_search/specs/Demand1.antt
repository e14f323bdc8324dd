-- Demand 1 of finding an error vector with an index.
use Rattle.std.specs.Prelude.{ℕ, ◌≡◌, List, Result}
use Rattle.refusals.specs.Outcome.{Outcome}
use Rattle.refusals.specs.declared.Refused.{Refused}
use Rattle.index_search.specs.Answer.{refused, find_checks, found_with, find_answer, answer_of}
use Rattle.index_search.specs.declared.Place.{Place}

abbrev pub Demand1OfFind : Type 0
Demand1OfFind =
    (bytes index : List ℕ) (n : ℕ) (r : Result Place Refused) → answer_of r ≡ find_answer bytes index n
    → Outcome (find_checks bytes index n) (answer_of r) (found_with bytes index n) refused
