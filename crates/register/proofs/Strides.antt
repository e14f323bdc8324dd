-- How many bits can be sent at once: as many as the nearer tap is away, and no more. Assumes nothing.
use mathlib.Core.Path.{◌≡◌, refl, sym, ap, ap₂, ◌∙◌}
use Prim.Native.Nat.{ℕ, suc, ◌+◌, ◌-◌, ◌%◌, ◌^◌, ◌≤◌, ◌<◌}
use native.Mathlib.Omega.{arith}
use lib.Pow.{pow_pos}
use Rattle.bits.specs.Bits.{bit}
use Rattle.bits.proofs.Laws.{by_lt, bit_lt, bit_none, bit_high}
use Rattle.register.specs.Register.{sent, whole, Stride}
use Rattle.register.proofs.Laws.{whole_low, whole_high, sent_at}

module _ (m a : ℕ) (p : 0 < a) where
  -- a sent bit before the nearer tap: its input bit, and two of the history
  pub sent_own : a ≤ suc m → (x : ℕ → ℕ) (h n : ℕ) → h < 2 ^ suc m → n < a → sent m a x h n ≡ (x n + bit h (n + (suc m - a)) + bit h n) % 2
  sent_own la x h n hb l =
      sent_at m a x h n hb p
      ∙ ap₂ (λ (u v : ℕ). (x n + u + v) % 2) (whole_low m h (sent m a x h) (n + (suc m - a)) (omega arith)) (whole_low m h (sent m a x h) n (omega arith))

  -- so every number of bits up to the tap can be sent at once
  pub stride : a ≤ suc m → (k : ℕ) → k ≤ a → Stride m a k
  stride la k lk x z h n hb l e =
      sent_own la x h n hb (omega arith)
      ∙ ap (λ (b : ℕ). (b + bit h (n + (suc m - a)) + bit h n) % 2) e
      ∙ sym (sent_own la z h n hb (omega arith))

  -- after a history of zeros, sent bit a is input bit 0 if input bit a is 0
  at_tap : a ≤ m → (x : ℕ → ℕ) → x 0 < 2 → x a ≡ 0 → sent m a x 0 a ≡ x 0
  at_tap la x b e =
      let first : sent m a x 0 0 ≡ x 0 =
      sent_own (omega arith) x 0 0 (pow_pos (suc m)) p
      ∙ ap₂ (λ (u v : ℕ). (x 0 + u + v) % 2) (bit_none (0 + (suc m - a))) (bit_none 0) ∙ omega (arith, b) in
      let near : whole m 0 (sent m a x 0) (a + (suc m - a)) ≡ x 0 = whole_high m 0 (sent m a x 0) (a + (suc m - a)) 0 (omega arith) ∙ first in
      let far : whole m 0 (sent m a x 0) a ≡ 0 = whole_low m 0 (sent m a x 0) a la ∙ bit_none a in
      sent_at m a x 0 a (pow_pos (suc m)) p ∙ omega (arith, near, far, e, b)

  first_one : bit 1 0 ≡ 1
  unfolding bit
  first_one = refl

  -- and one more cannot: two inputs that agree in bit a, of which one begins with a 1 and one has none
  pub stride_longest : a ≤ m → (k : ℕ) → Stride m a k → k ≤ a
  stride_longest la k s =
      by_lt a k
      (λ l.
      let e : bit 1 a ≡ 0 = bit_high 1 1 a (omega arith) p in
      let one : sent m a (bit 1) 0 a ≡ 1 = at_tap la (bit 1) (bit_lt 1 0) e ∙ first_one in
      let none : sent m a (λ n. 0) 0 a ≡ 0 = at_tap la (λ n. 0) (omega arith) refl in
      absurd (omega (arith, one, none, s (bit 1) (λ n. 0) 0 a (pow_pos (suc m)) l e)))
      (λ l. l)
