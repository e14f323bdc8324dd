-- Line bits put above those carried. Assumes nothing.
use mathlib.Core.Path.{◌≡◌, sym, ap, ap₂, ◌∙◌, subst}
use mathlib.Core.List.{List, ◌++◌}
use Prim.Native.Nat.{ℕ, ◌+◌, ◌-◌, ◌*◌, ◌%◌, ◌^◌, ◌≤◌, ◌<◌}
use native.Mathlib.Nat.{add_comm, add-mul, mul_comm, mul_assoc, mul-le-mul_right}
use native.Mathlib.Omega.{arith}
use lib.Pow.{pow-add, shl_lt, low}
use Rattle.bits.specs.Bits.{bit, number, listed, line_bit}
use Rattle.bits.proofs.Laws.{two, bit_below, bit_above, bit_number, number_lt, number_add, number_same}
use Rattle.bits.proofs.Lists.{listed_same, listed_add, line_bit_lt}
use Rattle.carrying.specs.Carrying.{word_of, Sound}
use Rattle.carrying.specs.declared.Carried.{Carried}

module _ (line : List ℕ) (pos : ℕ) where
  -- the line bits from here on
  abbrev pub onward : ℕ → ℕ
  onward i = line_bit line (pos + i)

  -- n of them are a number of n bits
  onward_lt : (n : ℕ) → number n onward < 2 ^ n
  onward_lt n = number_lt n onward (λ i l. line_bit_lt line (pos + i))

  -- above n bits they stay below the bound of their count
  pub word_more : (n m w : ℕ) → w < 2 ^ n → w + number m onward * 2 ^ n < 2 ^ (n + m)
  word_more n m w hw =
      let s : (number m onward + 1) * 2 ^ n ≤ 2 ^ m * 2 ^ n = mul-le-mul_right (2 ^ n) (omega (arith, onward_lt m)) in
      let p : 2 ^ (n + m) ≡ 2 ^ m * 2 ^ n = pow-add 2 n m ∙ mul_comm (2 ^ n) (2 ^ m) in
      omega (arith, add-mul (number m onward) 1 (2 ^ n))

  -- as a list they follow these
  pub bits_more : (n k m w : ℕ) → w < 2 ^ n → m ≤ k → listed (n + m) (bit (w + number k onward * 2 ^ n)) ≡ listed n (bit w) ++ listed m onward
  bits_more n k m w hw some =
      let s : w + number k onward * 2 ^ n ≡ number k onward * 2 ^ n + w = add_comm w (number k onward * 2 ^ n) in
      listed_add n m (bit (w + number k onward * 2 ^ n))
      ∙ ap₂ ◌++◌
      (listed_same n _ (bit w) (λ i l. ap (λ (x : ℕ). bit x i) s ∙ bit_below (number k onward) n w i l))
      (listed_same m _ onward
      (λ i l. ap (λ (x : ℕ). bit x (n + i)) s ∙ bit_above (number k onward) n w i hw ∙ bit_number k onward (λ j m. line_bit_lt line (pos + j)) i (omega arith)))

  -- the bits of a word that stay in it, shifted up
  shifted : (k : ℕ) → k ≤ 64 → number 64 onward * 2 ^ k % 2 ^ 64 ≡ number (64 - k) onward * 2 ^ k
  shifted k l =
      let stay = number (64 - k) onward in
      let gone = number k (λ i. onward (64 - k + i)) in
      let e : 64 ≡ 64 - k + k = omega arith in
      let p : 2 ^ (64 - k) * 2 ^ k ≡ 2 ^ 64 = sym (ap (λ (n : ℕ). 2 ^ n) e ∙ pow-add 2 (64 - k) k) in
      let below : stay * 2 ^ k < 2 ^ 64 = subst (λ (n : ℕ). stay * 2 ^ k < 2 ^ n) (sym e) (shl_lt (64 - k) k (onward_lt (64 - k))) in
      ap (λ (n : ℕ). number n onward * 2 ^ k % 2 ^ 64) e
      ∙ ap (λ (n : ℕ). n * 2 ^ k % 2 ^ 64) (number_add (64 - k) k onward)
      ∙ ap (λ (n : ℕ). n % 2 ^ 64)
      (add-mul stay (gone * 2 ^ (64 - k)) (2 ^ k) ∙ add_comm (stay * 2 ^ k) (gone * 2 ^ (64 - k) * 2 ^ k)
      ∙ ap (λ (n : ℕ). n + stay * 2 ^ k) (mul_assoc gone (2 ^ (64 - k)) (2 ^ k) ∙ ap (λ (n : ℕ). gone * n) p))
      ∙ low gone 64 below

  -- ---- a word q of them, above those carried
  module _ (c : Carried) (sound : Sound c) (q : ℕ) (word : q ≡ number 64 onward) where
    -- at most one carried bit and a word above it
    pub header_fits : c.count < 2 → c.header + q * 2 ^ c.count % 2 ^ 64 < 2 ^ 64
    header_fits few =
        two (λ (n : ℕ). word_of c < 2 ^ n → c.header + q * 2 ^ n % 2 ^ 64 < 2 ^ 64) (λ w. omega arith) (λ w. omega arith) c.count few sound.fits

    -- header and payload, with a second word from the payload's first bit on
    pub join_header : (r : ℕ) → c.count < 2 → r ≡ number 64 (λ i. line_bit line (pos + 2 - c.count + i))
        → (c.header + q * 2 ^ c.count % 2 ^ 64) % 4 + 4 * r ≡ word_of c + number (66 - c.count) onward * 2 ^ c.count
    join_header r few second =
        let e : (i : ℕ) → pos + 2 - c.count + i ≡ pos + (2 - c.count + i) = λ i. omega arith in
        two (λ (n : ℕ). word_of c < 2 ^ n → r ≡ number 64 (λ i. onward (2 - n + i)) → (c.header + q * 2 ^ n % 2 ^ 64) % 4 + 4 * r ≡ word_of c + number (66 - n) onward * 2 ^ n)
        (λ w s. omega (arith, onward_lt 2, number_add 2 62 onward, number_add 2 64 onward))
        (λ w s. omega (arith, onward_lt 1, number_add 1 63 onward, number_add 1 64 onward))
        c.count few sound.fits (second ∙ number_same 64 _ _ (λ i l. ap (line_bit line) (e i)))

    -- the header is there: the payload
    pub join_payload : 2 ≤ c.count
        → (c.payload + q * 2 ^ (c.count - 2) % 2 ^ 64 < 2 ^ 64)
        × (c.header + 4 * (c.payload + q * 2 ^ (c.count - 2) % 2 ^ 64) ≡ word_of c + number (66 - c.count) onward * 2 ^ c.count)
    join_payload lo =
        let n = c.count in
        let hi = sound.few in
        let more = number (66 - n) onward in
        let e : n ≡ n - 2 + 2 = omega arith in
        let s : 64 - (n - 2) ≡ 66 - n = omega arith in
        let t : n + (66 - n) ≡ 66 = omega arith in
        let x : q * 2 ^ (n - 2) % 2 ^ 64 ≡ more * 2 ^ (n - 2) =
        ap (λ (z : ℕ). z * 2 ^ (n - 2) % 2 ^ 64) word ∙ shifted (n - 2) (omega arith) ∙ ap (λ (z : ℕ). number z onward * 2 ^ (n - 2)) s in
        let y : more * 2 ^ n ≡ more * 2 ^ (n - 2) * 4 = ap (λ (z : ℕ). more * z) (ap (λ (k : ℕ). 2 ^ k) e ∙ pow-add 2 (n - 2) 2) ∙ sym (mul_assoc more (2 ^ (n - 2)) 4) in
        let m : word_of c + more * 2 ^ n < 2 ^ 66 = subst (λ (z : ℕ). word_of c + more * 2 ^ n < 2 ^ z) t (word_more n (66 - n) (word_of c) sound.fits) in
        (omega arith, omega arith)
