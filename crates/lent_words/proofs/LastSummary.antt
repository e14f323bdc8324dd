-- A call through C whose summary is checked last, over any list of checks before it. Assumes nothing.
use Prim.Native.Nat.{ℕ, ◌+◌, ◌*◌}
use mathlib.Core.Path.{◌≡◌, refl, ap, ◌∙◌}
use mathlib.Core.Bool.{Bool, true, false, cond}
use mathlib.Core.List.{List, [], ◌∷◌, ◌++◌}
use lib.ListN.{length, drop, replicate}
use Rattle.refusals.specs.First.{Check, check, Verdict, accepted, refused, first, by_verdict}
use Rattle.refusals.proofs.Laws.{first_append}
use Rattle.lent_words.specs.Words.{result_of, word_bytes, too_short, summary_with}
use Rattle.lent_words.specs.Demand1.{zeroed}
use Rattle.lent_words.proofs.Laws.{zero_words}

module _ (cs : List Check) (short : Bool) where
  by_summary : first (cs ++ check 4 short ∷ []) ≡ by_verdict (first cs) (cond short (refused 4 0) accepted) refused
  unfolding first
  by_summary = first_append cs (check 4 short ∷ [])

  -- none of the checks applies: the words are told
  pub told_result : accepted ≡ first cs → cond short 4 0 ≡ result_of (first (cs ++ check 4 short ∷ []))
  told_result e = go short ∙ rw (by_summary, ← e)
    where
      go : (b : Bool) → cond b 4 0 ≡ result_of (cond b (refused 4 0) accepted)
      go true = refl
      go false = refl

  -- one of them does
  pub refused_result : (n p : ℕ) → refused n p ≡ first cs → n + 256 * p ≡ result_of (first (cs ++ check 4 short ∷ []))
  refused_result n p e = rw (by_summary, ← e)

-- what a call of n summary words came to
module _ (n : ℕ) (cs : List Check) (words summary : List ℕ) (r : ℕ) (summary' : List ℕ) where
  abbrev LastCameTo : Verdict → Type 0
  LastCameTo v =
      ◌≡◌ {A = ℕ × List ℕ} (r, summary') (by_verdict v (0, word_bytes 8 words ++ drop (8 * n) summary) (λ number place. (number + 256 * place, zeroed n summary)))

  last_by : (v : Verdict) (short : Bool) → r ≡ result_of (by_verdict v (cond short (refused 4 0) accepted) refused)
      → summary' ≡ cond short summary (word_bytes 8 (by_verdict v words (λ number place. replicate n 0)) ++ drop (8 * n) summary)
      → ◌≡◌ {A = ℕ × List ℕ} (r, summary')
      (by_verdict (by_verdict v (cond short (refused 4 0) accepted) refused) (0, word_bytes 8 words ++ drop (8 * n) summary)
      (λ number place. (number + 256 * place, cond short summary (replicate (8 * n) 0 ++ drop (8 * n) summary))))
  last_by accepted true e f = λ i. (e i, f i)
  last_by accepted false e f = λ i. (e i, f i)
  last_by (refused m p) true e f = λ i. (e i, f i)
  last_by (refused m p) false e f = λ i. (e i, (f ∙ ap (λ (l : List ℕ). l ++ drop (8 * n) summary) (zero_words n)) i)

  pub last_through : r ≡ result_of (first (cs ++ check 4 (too_short 8 n (length summary)) ∷ []))
      → summary' ≡ summary_with n (by_verdict (first cs) words (λ number place. replicate n 0)) summary
      → LastCameTo (first (cs ++ check 4 (too_short 8 n (length summary)) ∷ []))
  unfolding summary_with
  last_through e f =
      let v = by_summary cs (too_short 8 n (length summary)) in
      rw v (last_by (first cs) (too_short 8 n (length summary)) (e ∙ ap result_of v) f)
