-- What vectors are that are not refused, and how large a refusal's place is. Assumes nothing.
use Prim.Native.Nat.{ℕ, ◌+◌, ◌*◌, ◌/◌, ◌%◌, ◌≤◌}
use mathlib.Core.Path.{◌≡◌, refl, sym, ◌∙◌}
use mathlib.Core.Bool.{Bool, true, false, not}
use mathlib.Core.List.{List, [], ◌∷◌, ◌++◌}
use native.Mathlib.Omega.{arith}
use native.Mathlib.Nat.{zero-add}
use lib.Dec.{ltb, eqb}
use lib.ListN.{length, get_or-eq_default}
use borrow.Author.Tests.{not-false, eqb-true, ltb-true, ltb-false}
use Rattle.refusals.specs.First.{check, check_at, Check, Verdict, accepted, refused, first, by_verdict}
use Rattle.refusals.proofs.Laws.{passed, first_append}
use Rattle.bits.proofs.Laws.{by_lt}
use Rattle.control_bytes.specs.Control.{high_control, Low}
use Rattle.control_bytes.proofs.High.{low_word}
use Rattle.vector_checks.specs.Checks.{vector_checks}

module _ (bytes : List ℕ) (a : first (vector_checks bytes) ≡ accepted) where
  pub short : length bytes ≤ 1000000
  short = ltb-false 1000000 (length bytes) (passed _ _ a).0

  pub whole : length bytes % 40 ≡ 0
  whole = eqb-true (length bytes % 40) 0 (not-false (eqb (length bytes % 40) 0) (passed _ _ (passed _ _ a).1).0)

  pub low : Low bytes
  unfolding high_control
  low i =
      by_lt i (length bytes / 5)
      (λ l.
      let h = ltb-false (high_control bytes) (length bytes) (passed _ _ (passed _ _ (passed _ _ a).1).1).0 in
      let e : 0 + 5 * i ≡ 5 * i = zero-add (5 * i) in
      rw e at (low_word (length bytes / 5) 0 bytes (omega (arith, whole)) i l))
      (λ l. omega (arith, get_or-eq_default bytes 0 {n = 5 * i} (omega (arith, whole))))

-- ---- a refusal's place

place_of : (a b c : Bool) (h n p : ℕ) → first (check 1 a ∷ check 2 b ∷ check_at 5 h c ∷ []) ≡ refused n p → (c ≡ true → a ≡ false → h ≤ 1000000) → p ≤ 1000000
unfolding first
place_of true b c h n p q l = let z : 0 ≡ p = cc in omega arith
place_of false true c h n p q l = let z : 0 ≡ p = cc in omega arith
place_of false false true h n p q l = let z : h ≡ p = cc in omega (arith, l refl refl)
place_of false false false h n p q l = absurd (let z : ◌≡◌ {A = ℕ} 0 1 = cc in omega arith)

place_few : (bytes : List ℕ) (n p : ℕ) → first (vector_checks bytes) ≡ refused n p → p ≤ 1000000
place_few bytes n p q =
    place_of (ltb 1000000 (length bytes)) (not (eqb (length bytes % 40) 0)) (ltb (high_control bytes) (length bytes)) (high_control bytes) n p q
    (λ c a. omega (arith, ltb-true (high_control bytes) (length bytes) c, ltb-false 1000000 (length bytes) a))

-- of checks behind these too, where theirs is no larger
pub place_behind : (bytes : List ℕ) (later : List Check) → (first (vector_checks bytes) ≡ accepted → (n p : ℕ) → first later ≡ refused n p → p ≤ 1000000)
    → (n p : ℕ) → first (vector_checks bytes ++ later) ≡ refused n p → p ≤ 1000000
place_behind bytes later l n p q = go (first (vector_checks bytes)) refl (sym (first_append (vector_checks bytes) later) ∙ q)
  where
    go : (v : Verdict) → first (vector_checks bytes) ≡ v → by_verdict v (first later) refused ≡ refused n p → p ≤ 1000000
    go accepted e f = l e n p f
    go (refused m o) e f = place_few bytes n p (e ∙ f)

-- ---- checks behind these: what a call answers by all of them

module _ {A : Type 0} (bytes : List ℕ) (later : List Check) (success : A) (refusal : ℕ → ℕ → A) where
  -- where one of these applies it is given
  pub stopped : (n p : ℕ) → refused n p ≡ first (vector_checks bytes) → refusal n p ≡ by_verdict (first (vector_checks bytes ++ later)) success refusal
  stopped n p e = rw (first_append (vector_checks bytes) later, ← e)

  -- where none does, the later ones are asked
  pub went_on : accepted ≡ first (vector_checks bytes) → (v : Verdict) → v ≡ first later → by_verdict v success refusal ≡ by_verdict (first (vector_checks bytes ++ later)) success refusal
  went_on e v f = rw (first_append (vector_checks bytes) later, ← e, ← f)
