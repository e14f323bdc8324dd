-- Demand 1 of the index through C, proved over the definitions. Assumes nothing.
use Prim.Native.Nat.{ℕ, ◌+◌, ◌*◌}
use mathlib.Core.Path.{◌≡◌, refl, ap, ap₂, ◌∙◌}
use mathlib.Core.List.{List}
use lib.ListN.{length, replicate}
use Rattle.refusals.specs.First.{Verdict, accepted, refused, first, by_verdict}
use Rattle.refusals.proofs.Outcome.{outcome, both}
use Rattle.lent_words.specs.Words.{summary_with}
use Rattle.lent_words.proofs.Laws.{verdict_result}
use Rattle.lent_words.proofs.LastSummary.{last_through}
use Rattle.block.specs.Block.{vector_list}
use Rattle.index.specs.Index.{index_for}
use Rattle.index.specs.Answer.{build_checks, index_after}
use Rattle.index_count.specs.Answer.{count_checks, counts_with, count_answer}
use Rattle.index_count.specs.Answer as Count
use Rattle.index_search.specs.Answer.{find_checks, found_with, find_answer}
use Rattle.index_search.specs.Answer as Find
use Rattle.holzmotte_index.specs.Boundary.{counting_checks, count_words, finding_checks, find_words}
use Rattle.holzmotte_index.specs.Demand1.{Demand1OfIndexThroughC, Demand1OfCountThroughC, Demand1OfFindThroughC}

pub demand_1_of_index_through_c : Demand1OfIndexThroughC
unfolding index_after
demand_1_of_index_through_c bytes index r index' p =
    outcome (build_checks bytes (length index)) _ _ _
    (ap₂ (λ (x : ℕ) (y : List ℕ). (x, y)) (p.0 ∙ verdict_result (first (build_checks bytes (length index)))) p.1
    ∙ both (first (build_checks bytes (length index))) 0 (index_for (vector_list bytes)) (λ number place. number + 256 * place) (λ number place. index))

-- the words by the verdict
count_words_lem : (v : Verdict) (bytes index : List ℕ) (a b : ℕ)
    → count_words (by_verdict v (counts_with bytes index a b) Count.refused) ≡ by_verdict v (count_words (counts_with bytes index a b)) (λ number place. replicate 2 0)
count_words_lem accepted bytes index a b = refl
count_words_lem (refused n p) bytes index a b = refl

pub demand_1_of_count_through_c : Demand1OfCountThroughC
unfolding counting_checks count_answer
demand_1_of_count_through_c bytes index a b summary r summary' p =
    outcome (counting_checks bytes index a b (length summary)) _ _ _
    (last_through 2 (count_checks bytes (length index) a b) (count_words (counts_with bytes index a b)) summary r summary' p.0
    (p.1 ∙ ap (λ (ws : List ℕ). summary_with 2 ws summary) (count_words_lem (first (count_checks bytes (length index) a b)) bytes index a b)))

find_words_lem : (v : Verdict) (bytes index : List ℕ) (n : ℕ)
    → find_words (by_verdict v (found_with bytes index n) Find.refused) ≡ by_verdict v (find_words (found_with bytes index n)) (λ number place. replicate 2 0)
find_words_lem accepted bytes index n = refl
find_words_lem (refused m p) bytes index n = refl

pub demand_1_of_find_through_c : Demand1OfFindThroughC
unfolding finding_checks find_answer
demand_1_of_find_through_c bytes index n summary r summary' p =
    outcome (finding_checks bytes index n (length summary)) _ _ _
    (last_through 2 (find_checks bytes index n) (find_words (found_with bytes index n)) summary r summary' p.0
    (p.1 ∙ ap (λ (ws : List ℕ). summary_with 2 ws summary) (find_words_lem (first (find_checks bytes index n)) bytes index n)))
