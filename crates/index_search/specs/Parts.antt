-- A reviewer can skip this file: what the functions of this crate promise each other.
use Rattle.std.specs.Prelude.{ℕ, ◌<◌, ◌≡◌, List, [], ◌∷◌, length, Option, None, Some}
use Rattle.refusals.specs.First.{first, by_verdict}
use Rattle.index_search.specs.Search.{before_nth}
use Rattle.index_search.specs.Answer.{FindAnswer, refused, no_such, found_with}

-- what finding answers once 12 alone is left to check
abbrev pub found_by : (bytes index : List ℕ) (n : ℕ) → FindAnswer
found_by bytes index n = by_verdict (first (no_such bytes index n ∷ [])) (found_with bytes index n) refused

-- the place of the n-th error vector among these; or that there is none
abbrev pub IsNth : ℕ → List (List ℕ) → Option ℕ → Type 0
IsNth n vs None = before_nth n vs ≡ length vs
IsNth n vs (Some i) = (i < length vs) × (before_nth n vs ≡ i)
