-- What counting with an index answers: document 02, 8/13.
use Rattle.std.specs.Prelude.{ℕ, List, [], ◌∷◌, ◌++◌, ◌||◌, length, ltb, Result}
use Rattle.refusals.specs.First.{Check, check, first, by_verdict}
use Rattle.refusals.specs.Refused.{by_result}
use Rattle.refusals.specs.declared.Refused.{Refused}
use Rattle.block.specs.Block.{is_error_vector, vector_list}
use Rattle.vector_checks.specs.Checks.{vector_checks}
use Rattle.vector_tests.specs.Tests.{of_kind_s}
use Rattle.tally.specs.declared.Tally.{Tally}
use Rattle.index.specs.Index.{errors_at, starts_at}
use Rattle.index.specs.Answer.{wrong_length}
use Rattle.index_count.specs.Counting.{count_between}

-- "11, a after b or b past the end, or an index of the wrong length, handed in .., checked after 1, 2 and 5"
unfoldable pub count_checks : List ℕ → (index a b : ℕ) → List Check
count_checks bytes index a b = vector_checks bytes ++ check 11 (ltb b a || ltb (length (vector_list bytes)) b || wrong_length bytes index) ∷ []

-- how many error vectors and how many vectors of kind S; or a refusal's number and place
pub data CountAnswer : Type 0 where
  counts : (errors starts : ℕ) → CountAnswer
  refused : (number place : ℕ) → CountAnswer

-- with any index: the errors by its first numbers, the starts by its second
abbrev pub counts_with : List ℕ → List ℕ → (a b : ℕ) → CountAnswer
counts_with bytes index a b =
    counts (count_between is_error_vector (errors_at index) (vector_list bytes) a b) (count_between of_kind_s (starts_at index) (vector_list bytes) a b)

unfoldable pub count_answer : List ℕ → List ℕ → (a b : ℕ) → CountAnswer
count_answer bytes index a b = by_verdict (first (count_checks bytes (length index) a b)) (counts_with bytes index a b) refused

-- the document's number and values for each case of the answer
abbrev pub answer_of : Result Tally Refused → CountAnswer
answer_of = by_result (λ tally. counts tally.errors tally.starts) refused
