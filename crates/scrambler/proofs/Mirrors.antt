-- The 64 bits of a word in the other order: neighbours change places, one bit, two bits, .. thirty-two bits wide. Assumes nothing.
use mathlib.Core.Path.{◌≡◌, refl, sym, ap, ap₂, ◌∙◌}
use Prim.Native.Nat.{ℕ, ◌+◌, ◌-◌, ◌*◌, ◌/◌, ◌%◌, ◌^◌, ◌≤◌, ◌<◌, min, max}
use native.Mathlib.Nat.{mod-lt, mod-le, add-mod_left, mod-eq-sub-mod, div-eq_of_lt, div-eq-sub-div, lt_of_le_of_lt}
use native.Mathlib.Omega.{arith}
use lib.Bits.{bit_and, bit_or, or_lt, and_le_r}
use lib.Arith.{mod-mul}
use lib.Pow.{pow_pos}
use Rattle.bits.specs.Bits.{bit, number}
use Rattle.bits.proofs.Laws.{bit_lt, by_lt, two, bit_shr, bit-and, bit-or, shifted_low, shifted_high, bit_number, is_number}
use Rattle.scrambler.specs.Scrambler.{mirror}

-- place n where each w bits stand in the other order
abbrev pub turned : ℕ → ℕ → ℕ
turned w n = n - n % w + (w - 1 - n % w)

-- neighbours of d bits change places; m has the lower ones of them
abbrev pub swapped : (d m x : ℕ) → ℕ
swapped d m x = bit_or (bit_and (x / 2 ^ d) m) (bit_and x m * 2 ^ d % 2 ^ 64)

-- ---- a place in 2 d bits, by its place in d

module _ (d n : ℕ) (p : 0 < d) where
  whole : n % (2 * d) ≡ n / d % 2 * d + n % d
  whole = mod-mul n {m = 2} {c = d} (omega arith) p

  -- of the lower d: the place in the higher ones, turned
  up : n / d % 2 ≡ 0 → turned d (d + n) ≡ turned (2 * d) n
  up e =
      ap (λ (r : ℕ). d + n - r + (d - 1 - r)) (add-mod_left d n)
      ∙ plain (n % d) (n % (2 * d)) (mod-lt n p) (mod-le n d) (whole ∙ ap (λ (b : ℕ). b * d + n % d) e ∙ omega arith)
    where
      plain : (r R : ℕ) → r < d → r ≤ n → R ≡ r → d + n - r + (d - 1 - r) ≡ n - R + (2 * d - 1 - R)
      plain r R l k q = omega arith

  -- of the higher d: the place in the lower ones, turned
  down : d ≤ n → n / d % 2 ≡ 1 → turned d (n - d) ≡ turned (2 * d) n
  down le e =
      ap (λ (r : ℕ). n - d - r + (d - 1 - r)) (sym (mod-eq-sub-mod le))
      ∙ (let e' : n % (2 * d) ≡ d + n % d = whole ∙ ap (λ (b : ℕ). b * d + n % d) e ∙ omega arith in
      ap₂ ◌+◌ (first (n % d) (n % (2 * d)) e') (rest (n % d) (n % (2 * d)) e'))
    where
      first : (r R : ℕ) → R ≡ d + r → n - d - r ≡ n - R
      first r R q = omega arith

      rest : (r R : ℕ) → R ≡ d + r → d - 1 - r ≡ 2 * d - 1 - R
      rest r R q = omega arith

  -- the higher d have lower ones before them, which are such
  below : n / d % 2 ≡ 1 → d ≤ n
  below e = by_lt n d (λ l. absurd (omega (arith, e, ap (λ (q : ℕ). q % 2) (div-eq_of_lt l)))) (λ l. l)

  before : d ≤ n → (n - d) / d % 2 ≡ 1 - n / d % 2
  before l =
      let e : n / d ≡ (n - d) / d + 1 = div-eq-sub-div p l in
      omega (arith, e)

-- what is asked of d and m: m has the bits of the lower neighbours, and the higher ones are in the word too
pub record Mask (d m : ℕ) : Type 0 where
  pub some : 0 < d
  pub small : m < 2 ^ 64
  pub ruled : m ≡ number 64 (λ n. 1 - n / d % 2)
  pub above : (n : ℕ) → n < 64 → n / d % 2 ≡ 0 → d + n < 64

module _ (d m : ℕ) (k : Mask d m) (x : ℕ) (xb : x < 2 ^ 64) where
  -- the bits of the mask
  lower : (n : ℕ) → n < 64 → bit m n ≡ 1 - n / d % 2
  lower n l = ap (λ (z : ℕ). bit z n) k.ruled ∙ bit_number 64 (λ i. 1 - i / d % 2) (λ i h. omega arith) n l

  -- it is a word
  pub swapped_lt : swapped d m x < 2 ^ 64
  swapped_lt =
      or_lt 64 (bit_and (x / 2 ^ d) m) (bit_and x m * 2 ^ d % 2 ^ 64) (lt_of_le_of_lt (and_le_r (x / 2 ^ d) m) k.small) (mod-lt (bit_and x m * 2 ^ d) (pow_pos 64))

  -- the two parts of a bit
  parts : (n : ℕ) → bit (swapped d m x) n ≡ max (min (bit x (d + n)) (bit m n)) (bit (bit_and x m * 2 ^ d % 2 ^ 64) n)
  parts n =
      bit-or (bit_and (x / 2 ^ d) m) (bit_and x m * 2 ^ d % 2 ^ 64) n
      ∙ ap (λ (u : ℕ). max u (bit (bit_and x m * 2 ^ d % 2 ^ 64) n)) (bit-and (x / 2 ^ d) m n ∙ ap (λ (u : ℕ). min u (bit m n)) (bit_shr x d n))

  -- the second of them, where it comes from below
  second : (n : ℕ) → n < 64 → d ≤ n → bit (bit_and x m * 2 ^ d % 2 ^ 64) n ≡ min (bit x (n - d)) (bit m (n - d))
  second n l le = shifted_high (bit_and x m) d n l le ∙ bit-and x m (n - d)

  -- a bit of the lower neighbours comes from the higher ones
  even : (n : ℕ) → n < 64 → n / d % 2 ≡ 0 → bit (swapped d m x) n ≡ bit x (d + n)
  even n l e =
      by_lt n d
      (λ lt. omega (arith, parts n, lower n l, e, shifted_low (bit_and x m) d n l lt, bit_lt x (d + n)))
      (λ le. omega (arith, parts n, lower n l, e, second n l le, lower (n - d) (omega arith), before d n k.some le, bit_lt x (d + n)))

  -- and the other way round
  odd : (n : ℕ) → n < 64 → n / d % 2 ≡ 1 → bit (swapped d m x) n ≡ bit x (n - d)
  odd n l e =
      let le : d ≤ n = below d n k.some e in
      omega (arith, parts n, lower n l, e, second n l le, lower (n - d) (omega arith), before d n k.some le, bit_lt x (n - d))

  -- where each d bits stood in the other order, each 2 d bits do
  pub turns : (s : ℕ) → ((n : ℕ) → n < 64 → bit x n ≡ bit s (turned d n)) → (n : ℕ) → n < 64 → bit (swapped d m x) n ≡ bit s (turned (2 * d) n)
  turns s h n l =
      two (λ b. n / d % 2 ≡ b → bit (swapped d m x) n ≡ bit s (turned (2 * d) n))
      (λ e. even n l e ∙ h (d + n) (k.above n l e) ∙ ap (bit s) (up d n k.some e))
      (λ e. odd n l e ∙ h (n - d) (omega arith) ∙ ap (bit s) (down d n k.some (below d n k.some e) e))
      (n / d % 2) (omega arith) refl

-- ---- the six masks

bits : Mask 1 0x5555555555555555
unfolding number
bits = record { some = omega arith; small = omega arith; ruled = refl; above = λ n l e. omega arith }

pairs : Mask 2 0x3333333333333333
unfolding number
pairs = record { some = omega arith; small = omega arith; ruled = refl; above = λ n l e. omega arith }

fours : Mask 4 0x0f0f0f0f0f0f0f0f
unfolding number
fours = record { some = omega arith; small = omega arith; ruled = refl; above = λ n l e. omega arith }

bytes : Mask 8 0x00ff00ff00ff00ff
unfolding number
bytes = record { some = omega arith; small = omega arith; ruled = refl; above = λ n l e. omega arith }

sixteens : Mask 16 0x0000ffff0000ffff
unfolding number
sixteens = record { some = omega arith; small = omega arith; ruled = refl; above = λ n l e. omega arith }

halves : Mask 32 0x00000000ffffffff
unfolding number
halves = record { some = omega arith; small = omega arith; ruled = refl; above = λ n l e. omega arith }

-- ---- the whole word

module _ (s : ℕ) (sb : s < 2 ^ 64) where
  abbrev a : ℕ
  a = swapped 1 0x5555555555555555 s

  abbrev b : ℕ
  b = swapped 2 0x3333333333333333 a

  abbrev c : ℕ
  c = swapped 4 0x0f0f0f0f0f0f0f0f b

  abbrev d : ℕ
  d = swapped 8 0x00ff00ff00ff00ff c

  abbrev e : ℕ
  e = swapped 16 0x0000ffff0000ffff d

  abbrev f : ℕ
  f = swapped 32 0x00000000ffffffff e

  -- the state in the other order is the one that is defined
  pub mirror_word : f / 2 ^ 6 ≡ mirror s
  unfolding mirror
  mirror_word = is_number 58 (f / 2 ^ 6) (λ j. bit s (57 - j)) (omega (arith, f_lt)) (λ j l. bit_shr f 6 j ∙ all (6 + j) (omega arith) ∙ ap (bit s) (place j l))
    where
      a_lt : a < 2 ^ 64
      a_lt = swapped_lt 1 0x5555555555555555 bits s sb

      b_lt : b < 2 ^ 64
      b_lt = swapped_lt 2 0x3333333333333333 pairs a a_lt

      c_lt : c < 2 ^ 64
      c_lt = swapped_lt 4 0x0f0f0f0f0f0f0f0f fours b b_lt

      d_lt : d < 2 ^ 64
      d_lt = swapped_lt 8 0x00ff00ff00ff00ff bytes c c_lt

      e_lt : e < 2 ^ 64
      e_lt = swapped_lt 16 0x0000ffff0000ffff sixteens d d_lt

      f_lt : f < 2 ^ 64
      f_lt = swapped_lt 32 0x00000000ffffffff halves e e_lt

      itself : (n : ℕ) → turned 1 n ≡ n
      itself n = omega arith

      all : (n : ℕ) → n < 64 → bit f n ≡ bit s (turned 64 n)
      all =
          turns 32 _ halves e e_lt s
          (turns 16 _ sixteens d d_lt s
          (turns 8 _ bytes c c_lt s (turns 4 _ fours b b_lt s (turns 2 _ pairs a a_lt s (turns 1 _ bits s sb s (λ n l. ap (bit s) (sym (itself n))))))))

      place : (j : ℕ) → j < 58 → turned 64 (6 + j) ≡ 57 - j
      place j l = omega arith
