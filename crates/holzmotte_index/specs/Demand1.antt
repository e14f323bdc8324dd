-- Demand 1 of the index through C. What a call comes to is its result and the lent slice: a result is 0, or a refusal's number and 256 times its
-- place; a refusal leaves the index to be built as it was, and zeros in a summary.
use Rattle.std.specs.Prelude.{ℕ, ◌+◌, ◌*◌, List, ◌++◌, length, drop}
use Rattle.refusals.specs.Outcome.{Outcome}
use Rattle.lent_words.specs.Words.{word_bytes}
use Rattle.lent_words.specs.Demand1.{zeroed}
use Rattle.block.specs.Block.{vector_list}
use Rattle.index.specs.Index.{index_for}
use Rattle.index.specs.Answer.{build_checks}
use Rattle.index_count.specs.Answer.{counts_with}
use Rattle.index_search.specs.Answer.{found_with}
use Rattle.holzmotte_index.specs.Boundary.{IndexesThroughC, counting_checks, count_words, CountsThroughC, finding_checks, find_words, FindsThroughC}

abbrev pub Demand1OfIndexThroughC : Type 0
Demand1OfIndexThroughC =
    (bytes index : List ℕ) (r : ℕ) (index' : List ℕ) → IndexesThroughC bytes index r index'
    → Outcome {A = ℕ × List ℕ} (build_checks bytes (length index)) (r, index') (0, index_for (vector_list bytes)) (λ number place. (number + 256 * place, index))

abbrev pub Demand1OfCountThroughC : Type 0
Demand1OfCountThroughC =
    (bytes index : List ℕ) (a b : ℕ) (summary : List ℕ) (r : ℕ) (summary' : List ℕ) → CountsThroughC bytes index a b summary r summary'
    → Outcome {A = ℕ × List ℕ} (counting_checks bytes index a b (length summary)) (r, summary')
    (0, word_bytes 8 (count_words (counts_with bytes index a b)) ++ drop 16 summary)
    (λ number place. (number + 256 * place, zeroed 2 summary))

abbrev pub Demand1OfFindThroughC : Type 0
Demand1OfFindThroughC =
    (bytes index : List ℕ) (n : ℕ) (summary : List ℕ) (r : ℕ) (summary' : List ℕ) → FindsThroughC bytes index n summary r summary'
    → Outcome {A = ℕ × List ℕ} (finding_checks bytes index n (length summary)) (r, summary')
    (0, word_bytes 8 (find_words (found_with bytes index n)) ++ drop 16 summary)
    (λ number place. (number + 256 * place, zeroed 2 summary))
