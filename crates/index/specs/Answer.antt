-- What building an index answers, and what it leaves in the lent index: document 02, 8/13.
use Rattle.std.specs.Prelude.{ℕ, ◌*◌, List, [], ◌∷◌, ◌++◌, Bool, not, ◌≡◌, length, eqb, Result}
use Rattle.refusals.specs.First.{Check, check, first, by_verdict}
use Rattle.refusals.specs.Refused.{by_result}
use Rattle.refusals.specs.declared.Refused.{Refused}
use Rattle.block.specs.Block.{vector_list}
use Rattle.vector_checks.specs.Checks.{vector_checks}
use Rattle.index.specs.Index.{entry_count, index_for}

-- "an index of the wrong length, handed in or to be built": so many bytes beside these vector bytes
abbrev pub wrong_length : List ℕ → (index : ℕ) → Bool
wrong_length bytes index = not (eqb index (8 * entry_count (vector_list bytes)))

-- "11, .. an index of the wrong length, .. to be built, checked after 1, 2 and 5"
unfoldable pub build_checks : List ℕ → (index : ℕ) → List Check
build_checks bytes index = vector_checks bytes ++ check 11 (wrong_length bytes index) ∷ []

-- an index was built; or a refusal's number and place
pub data BuildAnswer : Type 0 where
  built : BuildAnswer
  refused : (number place : ℕ) → BuildAnswer

unfoldable pub build_answer : List ℕ → (index : ℕ) → BuildAnswer
build_answer bytes index = by_verdict (first (build_checks bytes index)) built refused

-- the lent index afterwards: all of it is written; a refusal changes nothing
unfoldable pub index_after : List ℕ → List ℕ → List ℕ
index_after bytes index = by_verdict (first (build_checks bytes (length index))) (index_for (vector_list bytes)) (λ number place. index)

-- the document's number and values for each case of the answer
abbrev pub answer_of : Result Unit Refused → BuildAnswer
answer_of = by_result (λ done. built) refused

-- the promise: `build` was lent `index`, answered `r` and left `index'`
abbrev pub Builds : (bytes index : List ℕ) (r : Result Unit Refused) (index' : List ℕ) → Type 0
Builds bytes index r index' = (answer_of r ≡ build_answer bytes (length index)) × (index' ≡ index_after bytes index)
