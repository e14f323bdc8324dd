-- The flips of a line: those of headers and those of payloads, and those that a payload bit sees.
use mathlib.Core.Path.{◌≡◌, refl, sym, ap, ap₂, ◌∙◌}
use mathlib.Core.Bool.{Bool, cond}
use Prim.Native.Nat.{ℕ, zero, suc, ◌+◌, ◌-◌, ◌*◌, ◌/◌, ◌%◌, ◌≤◌, ◌<◌}
use native.Mathlib.Omega.{arith}
use borrow.Author.Tests.{lt-ltb, le-ltb}
use Rattle.bits.specs.Bits.{total}
use Rattle.bits.proofs.Laws.{bit_none, by_lt, total_add, total_below}
use Rattle.register.specs.Register.{whole}
use Rattle.register.proofs.Laws.{whole_low, whole_high}
use Rattle.damage.specs.Damage.{payload_bit, bit_before, flips_before}

-- ---- how many flips there are

-- the flips of block k's header
abbrev pub header_flips : (ℕ → ℕ) → ℕ → ℕ
header_flips f k = f (66 * k) + f (66 * k + 1)

-- payload bit i of block k is line bit 66 k + 2 + i
payload_at_lem : (f : ℕ → ℕ) (k i : ℕ) → i < 64 → payload_bit f (64 * k + i) ≡ f (66 * k + (2 + i))
payload_at_lem f k i l =
    let e : 66 * ((64 * k + i) / 64) + 2 + (64 * k + i) % 64 ≡ 66 * k + (2 + i) = omega arith in
    ap f e

-- each flip falls on a header or on a payload
pub flips_split : (f : ℕ → ℕ) (n : ℕ) → total f (66 * n) ≡ total (header_flips f) n + total (payload_bit f) (64 * n)
unfolding total
flips_split f zero = refl
flips_split f (suc n) =
    let a : 66 * suc n ≡ 66 * n + (2 + 64) = omega arith in
    let b : 64 * suc n ≡ 64 * n + 64 = omega arith in
    let z : 66 * n + 0 ≡ 66 * n = omega arith in
    let last : ℕ → ℕ = λ i. f (66 * n + i) in
    let head : total last 2 ≡ header_flips f n = ap (λ (m : ℕ). 0 + f m + f (66 * n + 1)) z ∙ omega arith in
    sums (total f (66 * n)) (total (header_flips f) n) (total (payload_bit f) (64 * n)) (total last 2) (header_flips f n) (total (λ i. last (2 + i)) 64)
    (flips_split f n) (ap (total f) a ∙ total_add f (66 * n) (2 + 64) ∙ ap (λ (m : ℕ). total f (66 * n) + m) (total_add last 2 64)) head
    (ap (total (payload_bit f)) b ∙ total_add (payload_bit f) (64 * n) 64
    ∙ ap (λ (m : ℕ). total (payload_bit f) (64 * n) + m) (total_below (λ i. payload_bit f (64 * n + i)) (λ i. last (2 + i)) 64 (payload_at_lem f n)))
  where
    sums : (t h p a b c : ℕ) {t' p' : ℕ} → t ≡ h + p → t' ≡ t + (a + c) → a ≡ b → p' ≡ p + c → t' ≡ h + b + p'
    sums t h p a b c u v w x = omega arith

-- the flips that a received payload bit sees, as the register has them
bit_before_is : (g : ℕ → ℕ) (d n : ℕ) → d ≤ 58 → bit_before d g n ≡ whole 57 0 g (n + (58 - d))
bit_before_is g d n l =
    by_lt n d
    (λ m. ap (λ (t : Bool). cond t 0 (g (n - d))) (lt-ltb n d m) ∙ sym (whole_low 57 0 g (n + (58 - d)) (omega arith) ∙ bit_none (n + (58 - d))))
    (λ m. ap (λ (t : Bool). cond t 0 (g (n - d))) (le-ltb n d m) ∙ sym (whole_high 57 0 g (n + (58 - d)) (n - d) (omega arith)))

-- those of the demand are those of the register
pub flips_seen : (f : ℕ → ℕ) (n : ℕ) → payload_bit f n + whole 57 0 (payload_bit f) (n + 19) + whole 57 0 (payload_bit f) n ≡ flips_before f n
unfolding flips_before
flips_seen f n =
    let e : n ≡ n + 0 = omega arith in
    ap₂ (λ (u v : ℕ). payload_bit f n + u + v) (sym (bit_before_is (payload_bit f) 39 n (omega arith)))
    (ap (whole 57 0 (payload_bit f)) e ∙ sym (bit_before_is (payload_bit f) 58 n (omega arith)))
