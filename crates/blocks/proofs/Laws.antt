-- Bits of the line that begin inside a word and end in the next. Assumes nothing.
use mathlib.Core.Path.{◌≡◌, refl, sym, ap, ap₂, ◌∙◌, subst}
use mathlib.Core.List.{List}
use Prim.Native.Nat.{ℕ, ◌+◌, ◌-◌, ◌*◌, ◌/◌, ◌%◌, ◌^◌, ◌≤◌, ◌<◌, max}
use native.Mathlib.Nat.{add-zero, max-zero, zero-max, mod-lt}
use native.Mathlib.Omega.{arith}
use lib.ListN.{get_or}
use lib.Pow.{pow_pos, shr_le, shr-shr}
use lib.Bits.{bit_or, or_lt}
use Rattle.bits.specs.Bits.{bit, number, line_bit}
use Rattle.bits.proofs.Laws.{by_lt, is_number, bit_number, number_lt, bit_shr, bit_high, bit-or, bit_mod, shifted_low, shifted_high}
use Rattle.bits.proofs.Lists.{line_bit_lt}
use Rattle.line.proofs.Laws.{bytes_at, bytes_at_number}
use Rattle.blocks.specs.Blocks.{header_at, Fours}

-- a number that has k line bits from bit p on
abbrev pub Has : List ℕ → ℕ → ℕ → ℕ → Type 0
Has s k p v = v ≡ number k (λ i. line_bit s (p + i))

-- its bits are these
pub has_bit : (s : List ℕ) (k p v i : ℕ) → Has s k p v → i < k → bit v i ≡ line_bit s (p + i)
has_bit s k p v i e l = ap (λ (x : ℕ). bit x i) e ∙ bit_number k (λ i. line_bit s (p + i)) (λ j q. line_bit_lt s (p + j)) i l

-- .. and it has no more
pub has_lt : (s : List ℕ) (k p v : ℕ) → Has s k p v → v < 2 ^ k
has_lt s k p v e = subst (λ (x : ℕ). x < 2 ^ k) (sym e) (number_lt k (λ i. line_bit s (p + i)) (λ j q. line_bit_lt s (p + j)))

-- two bits inside a number of k
pub two_bits : (s : List ℕ) (k p q v sh : ℕ) → Has s k p v → sh + 2 ≤ k → q ≡ p + sh → Has s 2 q (v / 2 ^ sh % 4)
two_bits s k p q v sh e l f =
    is_number 2 (v / 2 ^ sh % 4) (λ i. line_bit s (q + i)) (mod-lt (v / 2 ^ sh) (pow_pos 2))
    (λ i m.
    let g : p + (sh + i) ≡ q + i = omega arith in
    bit_mod (v / 2 ^ sh) 2 i m ∙ bit_shr v sh i ∙ has_bit s k p v (sh + i) e (omega arith) ∙ ap (line_bit s) g)

-- 64 bits that begin sh bits inside a word, and end in the next number
pub joined : (s : List ℕ) (p q lo hi k sh up : ℕ) → Has s 64 p lo → Has s k (p + 64) hi → sh ≤ k → sh + up ≡ 64 → q ≡ p + sh
    → Has s 64 q (bit_or (lo / 2 ^ sh) (hi * 2 ^ up % 2 ^ 64))
joined s p q lo hi k sh up elo ehi room both e = is_number 64 _ (λ i. line_bit s (q + i)) bound bits
  where
    bound : bit_or (lo / 2 ^ sh) (hi * 2 ^ up % 2 ^ 64) < 2 ^ 64
    bound = or_lt 64 (lo / 2 ^ sh) (hi * 2 ^ up % 2 ^ 64) (omega (arith, shr_le lo sh, has_lt s 64 p lo elo)) (mod-lt (hi * 2 ^ up) (pow_pos 64))

    bits : (n : ℕ) → n < 64 → bit (bit_or (lo / 2 ^ sh) (hi * 2 ^ up % 2 ^ 64)) n ≡ line_bit s (q + n)
    bits n m =
        bit-or (lo / 2 ^ sh) (hi * 2 ^ up % 2 ^ 64) n
        ∙ by_lt n up
        (λ l.
        let f : p + (sh + n) ≡ q + n = omega arith in
        ap₂ max (bit_shr lo sh n ∙ has_bit s 64 p lo (sh + n) elo (omega arith) ∙ ap (line_bit s) f) (shifted_low hi up n m l)
        ∙ max-zero (line_bit s (q + n)))
        (λ l.
        let f : p + 64 + (n - up) ≡ q + n = omega arith in
        ap₂ max (bit_shr lo sh n ∙ bit_high lo 64 (sh + n) (has_lt s 64 p lo elo) (omega arith))
        (shifted_high hi up n m l ∙ has_bit s k (p + 64) hi (n - up) ehi (omega arith) ∙ ap (line_bit s) f)
        ∙ zero-max (line_bit s (q + n)))

-- the same, said of another place that is equal
moved : (s : List ℕ) (k p q v : ℕ) → p ≡ q → Has s k p v → Has s k q v
moved s k p q v e h = subst (λ (i : ℕ). Has s k i v) e h

-- two bytes of the line
pub two_bytes : (s : List ℕ) → ((i : ℕ) → get_or s i 0 < 256) → (at x y : ℕ) → x ≡ get_or s at 0 → y ≡ get_or s (at + 1) 0 → Has s 16 (8 * at) (x + y * 256)
unfolding bytes_at
two_bytes s sb at x y p q =
    let e : x + y * 256 ≡ bytes_at s at 2 = omega (arith, p, q, ap (λ (i : ℕ). get_or s i 0) (add-zero at)) in
    e ∙ bytes_at_number s sb at 2

-- a shift by two after another
twice : (n a b : ℕ) → a + 2 ≡ b → n / 2 ^ a / 2 ^ 2 ≡ n / 2 ^ b
twice n a b e = shr-shr n a 2 ∙ ap (λ (k : ℕ). n / 2 ^ k) e

-- four words and two bytes have four blocks
pub fours : (s : List ℕ) (at sh w x y z last : ℕ) → sh < 8 → Has s 64 (8 * at) w → Has s 64 (8 * (at + 8)) x → Has s 64 (8 * (at + 16)) y
    → Has s 64 (8 * (at + 24)) z → Has s 16 (8 * (at + 32)) last
    → Fours s (8 * at + sh)
    (record {
      headers = w / 2 ^ sh % 4 + x / 2 ^ (sh + 2) % 4 * 4 + y / 2 ^ (sh + 4) % 4 * 16 + z / 2 ^ (sh + 6) % 4 * 64;
      a = bit_or (w / 2 ^ sh / 2 ^ 2) (x * 2 ^ (62 - sh) % 2 ^ 64);
      b = bit_or (x / 2 ^ (sh + 2) / 2 ^ 2) (y * 2 ^ (60 - sh) % 2 ^ 64);
      c = bit_or (y / 2 ^ (sh + 4) / 2 ^ 2) (z * 2 ^ (58 - sh) % 2 ^ 64);
      d = bit_or (z / 2 ^ (sh + 6) / 2 ^ 2) (last * 2 ^ (56 - sh) % 2 ^ 64);
    })
fours s at sh w x y z last l hw hx hy hz hl =
    let p = 8 * at in
    let x₁ : Has s 64 (p + 64) x = moved s 64 (8 * (at + 8)) (p + 64) x (omega arith) hx in
    let y₁ : Has s 64 (p + 128) y = moved s 64 (8 * (at + 16)) (p + 128) y (omega arith) hy in
    let z₁ : Has s 64 (p + 192) z = moved s 64 (8 * (at + 24)) (p + 192) z (omega arith) hz in
    let y₂ : Has s 64 (p + 64 + 64) y = moved s 64 (p + 128) (p + 64 + 64) y (omega arith) y₁ in
    let z₂ : Has s 64 (p + 128 + 64) z = moved s 64 (p + 192) (p + 128 + 64) z (omega arith) z₁ in
    let l₂ : Has s 16 (p + 192 + 64) last = moved s 16 (8 * (at + 32)) (p + 192 + 64) last (omega arith) hl in
    record {
      headers =
          ap₂ (λ (i j : ℕ). i + j * 4 + y / 2 ^ (sh + 4) % 4 * 16 + z / 2 ^ (sh + 6) % 4 * 64)
          (two_bits s 64 p (p + sh) w sh hw (omega arith) refl) (two_bits s 64 (p + 64) (p + sh + 66) x (sh + 2) x₁ (omega arith) (omega arith))
          ∙ ap₂ (λ (i j : ℕ). header_at s (p + sh) + header_at s (p + sh + 66) * 4 + i * 16 + j * 64)
          (two_bits s 64 (p + 128) (p + sh + 132) y (sh + 4) y₁ (omega arith) (omega arith))
          (two_bits s 64 (p + 192) (p + sh + 198) z (sh + 6) z₁ (omega arith) (omega arith));
      a = ap (λ (n : ℕ). bit_or n (x * 2 ^ (62 - sh) % 2 ^ 64)) (twice w sh (sh + 2) (omega arith)) ∙ joined s p (p + sh + 2) w x 64 (sh + 2) (62 - sh) hw x₁ (omega arith) (omega arith) (omega arith);
      b = ap (λ (n : ℕ). bit_or n (y * 2 ^ (60 - sh) % 2 ^ 64)) (twice x (sh + 2) (sh + 4) (omega arith)) ∙ joined s (p + 64) (p + sh + 66 + 2) x y 64 (sh + 4) (60 - sh) x₁ y₂ (omega arith) (omega arith) (omega arith);
      c = ap (λ (n : ℕ). bit_or n (z * 2 ^ (58 - sh) % 2 ^ 64)) (twice y (sh + 4) (sh + 6) (omega arith)) ∙ joined s (p + 128) (p + sh + 132 + 2) y z 64 (sh + 6) (58 - sh) y₁ z₂ (omega arith) (omega arith) (omega arith);
      d = ap (λ (n : ℕ). bit_or n (last * 2 ^ (56 - sh) % 2 ^ 64)) (twice z (sh + 6) (sh + 8) (omega arith)) ∙ joined s (p + 192) (p + sh + 198 + 2) z last 16 (sh + 8) (56 - sh) z₁ l₂ (omega arith) (omega arith) (omega arith);
    }

-- two bytes, a word and two bytes more have one block
pub one_header_lem : (s : List ℕ) (pos first : ℕ) → Has s 16 (8 * (pos / 8)) first → Has s 2 pos (first / 2 ^ (pos % 8) % 4)
one_header_lem s pos first h = two_bits s 16 (8 * (pos / 8)) pos first (pos % 8) h (omega arith) (omega arith)

pub one_payload : (s : List ℕ) (pos w last : ℕ) → Has s 64 (8 * (pos / 8)) w → Has s 16 (8 * (pos / 8 + 8)) last
    → Has s 64 (pos + 2) (bit_or (w / 2 ^ (pos % 8 + 2)) (last * 2 ^ (62 - pos % 8) % 2 ^ 64))
one_payload s pos w last hw hl =
    let l : Has s 16 (8 * (pos / 8) + 64) last = moved s 16 (8 * (pos / 8 + 8)) (8 * (pos / 8) + 64) last (omega arith) hl in
    joined s (8 * (pos / 8)) (pos + 2) w last 16 (pos % 8 + 2) (62 - pos % 8) hw l (omega arith) (omega arith) (omega arith)
