-- What a count is worth: with an index that was built from the vectors, and with any other.
use Rattle.std.specs.Prelude.{ℕ, ◌-◌, ◌≤◌, ◌≡◌, List, length}
use Rattle.refusals.specs.First.{first, by_verdict}
use Rattle.block.specs.Block.{is_error_vector, vector_list}
use Rattle.vector_tests.specs.Tests.{of_kind_s}
use Rattle.index.specs.Index.{index_for}
use Rattle.index_count.specs.Counting.{full_count}
use Rattle.index_count.specs.Answer.{counts, refused, count_checks, count_answer}

-- "it must equal the full count": "Equality holds for an index built from those vectors"
abbrev pub CountsAll : Type 0
CountsAll =
    (bytes : List ℕ) (a b : ℕ)
    → count_answer bytes (index_for (vector_list bytes)) a b
    ≡ by_verdict (first (count_checks bytes (length (index_for (vector_list bytes))) a b))
    (counts (full_count is_error_vector (vector_list bytes) a b) (full_count of_kind_s (vector_list bytes) a b))
    refused

-- "a foreign index still gets an answer within its ranges": from 0 through b - a, whatever the index
abbrev pub CountsWithin : Type 0
CountsWithin = (bytes index : List ℕ) (a b errors starts : ℕ) → count_answer bytes index a b ≡ counts errors starts → (errors ≤ b - a) × (starts ≤ b - a)
