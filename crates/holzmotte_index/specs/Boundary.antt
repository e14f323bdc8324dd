-- The C boundary of the index, document 02, 8/13: building one, counting and finding with one, over byte slices. Where a summary is a number
-- here, it is the length of the slice.
use Rattle.std.specs.Prelude.{ℕ, ◌≡◌, List, [], ◌∷◌, ◌++◌, length, replicate}
use Rattle.refusals.specs.First.{Check, check, first}
use Rattle.lent_words.specs.Words.{result_of, too_short, summary_with}
use Rattle.index.specs.Answer.{build_checks, index_after}
use Rattle.index_count.specs.Answer.{CountAnswer, counts, count_checks, count_answer}
use Rattle.index_count.specs.Answer as Count
use Rattle.index_search.specs.Answer.{FindAnswer, found, find_checks, find_answer}
use Rattle.index_search.specs.Answer as Find

-- ---- building: 1, 2, 5, 11

-- the promise: `holzmotte_index` was lent `index`, returned `r` and left `index'`
abbrev pub IndexesThroughC : (bytes index : List ℕ) (r : ℕ) (index' : List ℕ) → Type 0
IndexesThroughC bytes index r index' = (r ≡ result_of (first (build_checks bytes (length index)))) × (index' ≡ index_after bytes index)

-- ---- counting: 1, 2, 5, 11, then 4 for the summary

unfoldable pub counting_checks : (bytes index : List ℕ) (a b summary : ℕ) → List Check
counting_checks bytes index a b summary = count_checks bytes (length index) a b ++ check 4 (too_short 8 2 summary) ∷ []

-- its two words: error vectors, vectors of kind S; zeros for a refusal
abbrev pub count_words : CountAnswer → List ℕ
count_words (counts errors starts) = errors ∷ starts ∷ []
count_words (Count.refused number place) = replicate 2 0

-- the promise: `holzmotte_count` was lent `summary`, returned `r` and left `summary'`
abbrev pub CountsThroughC : (bytes index : List ℕ) (a b : ℕ) (summary : List ℕ) (r : ℕ) (summary' : List ℕ) → Type 0
CountsThroughC bytes index a b summary r summary' =
    (r ≡ result_of (first (counting_checks bytes index a b (length summary)))) × (summary' ≡ summary_with 2 (count_words (count_answer bytes index a b)) summary)

-- ---- finding: 1, 2, 5, 11, 12, then 4 for the summary

unfoldable pub finding_checks : (bytes index : List ℕ) (n summary : ℕ) → List Check
finding_checks bytes index n summary = find_checks bytes index n ++ check 4 (too_short 8 2 summary) ∷ []

-- its two words: the number of the vector, entries read; zeros for a refusal
abbrev pub find_words : FindAnswer → List ℕ
find_words (found vector read) = vector ∷ read ∷ []
find_words (Find.refused number place) = replicate 2 0

-- the promise: `holzmotte_find_error` was lent `summary`, returned `r` and left `summary'`
abbrev pub FindsThroughC : (bytes index : List ℕ) (n : ℕ) (summary : List ℕ) (r : ℕ) (summary' : List ℕ) → Type 0
FindsThroughC bytes index n summary r summary' =
    (r ≡ result_of (first (finding_checks bytes index n (length summary)))) × (summary' ≡ summary_with 2 (find_words (find_answer bytes index n)) summary)
