-- What the index's calls through C come to, by what was answered. Assumes nothing.
use Prim.Native.Nat.{ℕ, ◌+◌, ◌*◌, ◌^◌, ◌<◌}
use mathlib.Core.Path.{◌≡◌, refl, sym, ap, ◌∙◌}
use mathlib.Core.Bool.{cond}
use mathlib.Core.List.{List, [], ◌∷◌, ◌++◌}
use native.Mathlib.Omega.{arith}
use lib.ListN.{length, replicate}
use Rattle.refusals.specs.First.{Check, Verdict, accepted, refused, first, by_verdict}
use Rattle.lent_words.specs.Words.{too_short, summary_with}
use Rattle.lent_words.proofs.Laws.{Placeless, place_zero}
use Rattle.lent_words.proofs.LastSummary.{told_result, refused_result}
use Rattle.vector_checks.specs.Checks.{vector_checks}
use Rattle.vector_checks.proofs.Laws.{place_behind}
use Rattle.index.specs.Answer.{BuildAnswer, built, build_checks, build_answer}
use Rattle.index.specs.Answer as Build
use Rattle.index_count.specs.Answer.{CountAnswer, counts, count_checks, counts_with, count_answer}
use Rattle.index_count.specs.Answer as Count
use Rattle.index_search.specs.Answer.{FindAnswer, found, find_checks, found_with, find_answer}
use Rattle.index_search.specs.Answer as Find
use Rattle.holzmotte_index.specs.Boundary.{counting_checks, count_words, CountsThroughC, finding_checks, find_words, FindsThroughC}

-- ---- how large a refusal's place can be

fits : (bytes : List ℕ) (later : List Check) → Placeless later → (n p : ℕ) → first (vector_checks bytes ++ later) ≡ refused n p → p < 2 ^ 56
fits bytes later l n p q = omega (arith, place_behind bytes later (λ ok m o e. omega (arith, place_zero later l m o e)) n p q)

-- ---- building

abbrev verdict_of_build : BuildAnswer → Verdict
verdict_of_build built = accepted
verdict_of_build (Build.refused number place) = refused number place

-- the answer tells the verdict
pub build_told : (bytes : List ℕ) (index : ℕ) (a : BuildAnswer) → a ≡ build_answer bytes index → verdict_of_build a ≡ first (build_checks bytes index)
unfolding build_answer
build_told bytes index a e = ap verdict_of_build e ∙ go (first (build_checks bytes index))
  where
    go : (v : Verdict) → verdict_of_build (by_verdict v built Build.refused) ≡ v
    go accepted = refl
    go (refused n p) = refl

pub build_place : (bytes : List ℕ) (index n p : ℕ) → Build.refused n p ≡ build_answer bytes index → p < 2 ^ 56
unfolding build_checks
build_place bytes index n p e = fits bytes _ (refl, tt) n p (sym (build_told bytes index (Build.refused n p) e))

-- ---- counting

abbrev verdict_of_count : CountAnswer → Verdict
verdict_of_count (counts errors starts) = accepted
verdict_of_count (Count.refused number place) = refused number place

module _ (bytes index : List ℕ) (a b : ℕ) where
  count_told : (x : CountAnswer) → x ≡ count_answer bytes index a b → verdict_of_count x ≡ first (count_checks bytes (length index) a b)
  unfolding count_answer
  count_told x e = ap verdict_of_count e ∙ go (first (count_checks bytes (length index) a b))
    where
      go : (v : Verdict) → verdict_of_count (by_verdict v (counts_with bytes index a b) Count.refused) ≡ v
      go accepted = refl
      go (refused n p) = refl

  pub count_place : (n p : ℕ) → Count.refused n p ≡ count_answer bytes index a b → p < 2 ^ 56
  unfolding count_checks
  count_place n p e = fits bytes _ (refl, tt) n p (sym (count_told (Count.refused n p) e))

  module _ (summary : List ℕ) (r : ℕ) (summary' : List ℕ) where
    pub counted : (errors starts : ℕ) → counts errors starts ≡ count_answer bytes index a b → r ≡ cond (too_short 8 2 (length summary)) 4 0
        → summary' ≡ summary_with 2 (errors ∷ starts ∷ []) summary → CountsThroughC bytes index a b summary r summary'
    unfolding counting_checks
    counted errors starts e f g =
        (f ∙ told_result _ (too_short 8 2 (length summary)) (count_told (counts errors starts) e), g ∙ ap (λ (x : CountAnswer). summary_with 2 (count_words x) summary) e)

    pub count_refused : (n p : ℕ) → Count.refused n p ≡ count_answer bytes index a b → r ≡ n + 256 * p
        → summary' ≡ summary_with 2 (replicate 2 0) summary → CountsThroughC bytes index a b summary r summary'
    unfolding counting_checks
    count_refused n p e f g =
        (f ∙ refused_result _ (too_short 8 2 (length summary)) n p (count_told (Count.refused n p) e), g ∙ ap (λ (x : CountAnswer). summary_with 2 (count_words x) summary) e)

-- ---- finding

abbrev verdict_of_find : FindAnswer → Verdict
verdict_of_find (found vector read) = accepted
verdict_of_find (Find.refused number place) = refused number place

module _ (bytes index : List ℕ) (n : ℕ) where
  find_told : (x : FindAnswer) → x ≡ find_answer bytes index n → verdict_of_find x ≡ first (find_checks bytes index n)
  unfolding find_answer
  find_told x e = ap verdict_of_find e ∙ go (first (find_checks bytes index n))
    where
      go : (v : Verdict) → verdict_of_find (by_verdict v (found_with bytes index n) Find.refused) ≡ v
      go accepted = refl
      go (refused m p) = refl

  pub find_place : (m p : ℕ) → Find.refused m p ≡ find_answer bytes index n → p < 2 ^ 56
  unfolding find_checks
  find_place m p e = fits bytes _ (refl, (refl, tt)) m p (sym (find_told (Find.refused m p) e))

  module _ (summary : List ℕ) (r : ℕ) (summary' : List ℕ) where
    pub found_one : (vector read : ℕ) → found vector read ≡ find_answer bytes index n → r ≡ cond (too_short 8 2 (length summary)) 4 0
        → summary' ≡ summary_with 2 (vector ∷ read ∷ []) summary → FindsThroughC bytes index n summary r summary'
    unfolding finding_checks
    found_one vector read e f g =
        (f ∙ told_result _ (too_short 8 2 (length summary)) (find_told (found vector read) e), g ∙ ap (λ (x : FindAnswer). summary_with 2 (find_words x) summary) e)

    pub find_refused : (m p : ℕ) → Find.refused m p ≡ find_answer bytes index n → r ≡ m + 256 * p
        → summary' ≡ summary_with 2 (replicate 2 0) summary → FindsThroughC bytes index n summary r summary'
    unfolding finding_checks
    find_refused m p e f g =
        (f ∙ refused_result _ (too_short 8 2 (length summary)) m p (find_told (Find.refused m p) e), g ∙ ap (λ (x : FindAnswer). summary_with 2 (find_words x) summary) e)
