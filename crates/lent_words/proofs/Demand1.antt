-- What demand 1 says of a call through C with a summary, over any list of checks. Assumes nothing.
use mathlib.Core.Path.{◌≡◌, refl, sym, ap, ◌∙◌}
use mathlib.Core.Bool.{Bool, true, false, cond, true≢false}
use mathlib.Core.List.{List, [], ◌∷◌, ◌++◌}
use Prim.Native.Nat.{ℕ, zero, suc, ◌+◌, ◌*◌}
use lib.ListN.{length, drop, replicate}
use borrow.Author.Tests.{ltb-false}
use Rattle.refusals.specs.First.{Check, check, Verdict, accepted, refused, first, by_verdict}
use Rattle.refusals.proofs.Laws.{passed}
use Rattle.lent_words.specs.Words.{result_of, one_more_after, word_bytes, too_short, summary_with}
use Rattle.lent_words.specs.Demand1.{zeroed}
use Rattle.lent_words.proofs.Laws.{first_after, summary_long, zero_words}

-- ---- one more row in a list of refusals

-- a list with a row that applies does not accept
applied_row : (k : ℕ) (c : Check) (cs : List Check) → c.applies ≡ true → first (one_more_after k c cs) ≡ accepted → ⊥
applied_row zero c cs e q = true≢false (sym e ∙ (passed c cs q).0)
applied_row (suc k) c [] e q = true≢false (sym e ∙ (passed c [] q).0)
applied_row (suc k) c (d ∷ cs) e q = applied_row k c cs e (passed d (one_more_after k c cs) q).1

-- so where all rows pass, it does not apply, and the others pass
all_pass : (k : ℕ) (short : Bool) (cs : List Check) → first (one_more_after k (check 4 short) cs) ≡ accepted → (short ≡ false) × (first cs ≡ accepted)
all_pass k true cs e = absurd (applied_row k (check 4 true) cs refl e)
all_pass k false cs e = (refl, sym (first_after k (check 4 false) cs refl) ∙ e)

-- ---- a call of n summary words and other lent slices, whose checks are cs and, after the first k of them, one for short slices

module _ {A : Type 0} (n k : ℕ) (short : Bool) (cs : List Check) (words summary : List ℕ) (written before : A)
    (own : short ≡ false → too_short 8 n (length summary) ≡ false)
    (r : ℕ) (rest' : A) (summary' : List ℕ) where
  -- all its checks
  abbrev pub all_checks : List Check
  all_checks = one_more_after k (check 4 short) cs

  -- what it came to by a verdict
  abbrev pub CameTo : Verdict → Type 0
  CameTo v =
      ◌≡◌ {A = ℕ × A × List ℕ} (r, rest', summary')
      (by_verdict v (0, written, word_bytes 8 words ++ drop (8 * n) summary) (λ number place. (number + 256 * place, before, zeroed n summary)))

  pub through : r ≡ result_of (first all_checks) → rest' ≡ by_verdict (first all_checks) (by_verdict (first cs) written (λ number place. before)) (λ number place. before)
      → summary' ≡ summary_with n (by_verdict (first all_checks) words (λ number place. replicate n 0)) summary → CameTo (first all_checks)
  unfolding summary_with
  through a b c = go (first all_checks) refl a b c
    where
      go : (v : Verdict) → first all_checks ≡ v → r ≡ result_of v → rest' ≡ by_verdict v (by_verdict (first cs) written (λ number place. before)) (λ number place. before)
          → summary' ≡ summary_with n (by_verdict v words (λ number place. replicate n 0)) summary → CameTo v
      go accepted e a b c =
          let p = all_pass k short cs e in
          λ i. (
            a i,
            (b ∙ ap (λ (v : Verdict). by_verdict v written (λ number place. before)) p.1) i,
            (c ∙ summary_long n words summary (ltb-false (length summary) (8 * n) (own p.0))) i,
          )
      go (refused m q) e a b c =
          λ i. (a i, b i, (c ∙ ap (λ (z : List ℕ). cond (too_short 8 n (length summary)) summary (z ++ drop (8 * n) summary)) (zero_words n)) i)
