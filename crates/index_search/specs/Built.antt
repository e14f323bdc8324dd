-- What a search is worth: with an index that was built from the vectors, and with any other.
use Rattle.std.specs.Prelude.{ℕ, ◌+◌, ◌≤◌, ◌<◌, ◌≡◌, true, List, [], ◌∷◌, ◌++◌, leb, length, get_or, take}
use Rattle.bits.specs.Lists.{how_many}
use Rattle.refusals.specs.First.{check, first, by_verdict}
use Rattle.block.specs.Block.{is_error_vector, vector_list}
use Rattle.vector_checks.specs.Checks.{vector_checks}
use Rattle.index.specs.Index.{index_for}
use Rattle.index_search.specs.Search.{before_nth, searched}
use Rattle.index_search.specs.Answer.{found, refused, find_answer}

-- `before_nth` finds the n-th error vector: it is one, and n - 1 stand before it; and it finds one where there are n of them, n from 1.
abbrev pub FindsNth : Type 0
FindsNth =
    (n : ℕ) (vs : List (List ℕ))
    → (before_nth n vs < length vs → (is_error_vector (get_or vs (before_nth n vs) []) ≡ true) × (how_many is_error_vector (take (before_nth n vs) vs) + 1 ≡ n))
    × (0 < n → n ≤ how_many is_error_vector vs → before_nth n vs < length vs)

-- With an index built from those vectors: the n-th of all error vectors, or refusal 12 where there is none, after 1, 2 and 5.
abbrev pub FindsAll : Type 0
FindsAll =
    (bytes : List ℕ) (n : ℕ)
    → find_answer bytes (index_for (vector_list bytes)) n
    ≡ by_verdict (first (vector_checks bytes ++ check 12 (leb (length (vector_list bytes)) (before_nth n (vector_list bytes))) ∷ []))
    (found (before_nth n (vector_list bytes)) (searched (vector_list bytes) (index_for (vector_list bytes)) n).read)
    refused

-- "a foreign index still gets an answer within its ranges or refusal 12": what is found with any index is an error vector among these, and
-- the entries read are "at most 12"
abbrev pub FindsWithin : Type 0
FindsWithin =
    (bytes index : List ℕ) (n vector read : ℕ) → find_answer bytes index n ≡ found vector read
    → (vector < length (vector_list bytes)) × (is_error_vector (get_or (vector_list bytes) vector []) ≡ true) × (read ≤ 12)
