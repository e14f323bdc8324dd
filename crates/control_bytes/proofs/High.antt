-- The first control byte above 15, word by word.
use mathlib.Core.Path.{◌≡◌, ◌∙◌}
use mathlib.Core.List.{List}
use Prim.Native.Nat.{ℕ, zero, suc, ◌+◌, ◌*◌, ◌<◌, ◌≤◌}
use native.Mathlib.Omega.{arith}
use lib.ListN.{get_or}
use borrow.Author.Tests.{lt-ltb, le-ltb}
use Rattle.bits.proofs.Laws.{by_lt}
use Rattle.control_bytes.specs.Control.{high_from}

-- a word whose control byte is above 15 is the first
pub high_here : (n p : ℕ) (bytes : List ℕ) → 15 < get_or bytes p 0 → high_from (suc n) p bytes ≡ p
unfolding high_from
high_here n p bytes h = rw (lt-ltb 15 (get_or bytes p 0) h)

-- one whose control byte is not is passed
pub high_next : (n p : ℕ) (bytes : List ℕ) → get_or bytes p 0 ≤ 15 → high_from (suc n) p bytes ≡ high_from n (p + 5) bytes
unfolding high_from
high_next n p bytes h = rw (le-ltb 15 (get_or bytes p 0) h)

-- where every control byte is at most 15, there is none
pub high_none : (n p : ℕ) (bytes : List ℕ) → ((i : ℕ) → i < n → get_or bytes (p + 5 * i) 0 ≤ 15) → high_from n p bytes ≡ p + 5 * n
unfolding high_from
high_none zero p bytes h = omega arith
high_none (suc n) p bytes h =
    let z : p + 5 * 0 ≡ p = omega arith in
    let first : get_or bytes p 0 ≤ 15 = rw z at (h 0 (omega arith)) in
    let rest = high_none n (p + 5) bytes (λ i l. let e : p + 5 * suc i ≡ p + 5 + 5 * i = omega arith in rw e at (h (suc i) (omega arith))) in
    high_next n p bytes first ∙ rest ∙ omega arith

-- where there is none, every control byte is at most 15
pub low_word : (n p : ℕ) (bytes : List ℕ) → p + 5 * n ≤ high_from n p bytes → (i : ℕ) → i < n → get_or bytes (p + 5 * i) 0 ≤ 15
low_word zero p bytes h i l = absurd (omega arith)
low_word (suc n) p bytes h i l =
    by_lt 15 (get_or bytes p 0)
    (λ m. absurd (omega (arith, high_here n p bytes m)))
    (λ m. here i l m (low_word n (p + 5) bytes (omega (arith, high_next n p bytes m))))
  where
    here : (i : ℕ) → i < suc n → get_or bytes p 0 ≤ 15 → ((j : ℕ) → j < n → get_or bytes (p + 5 + 5 * j) 0 ≤ 15) → get_or bytes (p + 5 * i) 0 ≤ 15
    here zero l m rest =
        let e : p + 5 * 0 ≡ p = omega arith in
        rw e m
    here (suc j) l m rest =
        let e : p + 5 * suc j ≡ p + 5 + 5 * j = omega arith in
        rw e (rest j (omega arith))
