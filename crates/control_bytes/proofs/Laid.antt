-- Groups of eight words laid one over the other: what is 0 in all of them. Assumes nothing.
use Prim.Native.Nat.{ℕ, zero, suc, ◌+◌, ◌*◌, ◌/◌, ◌%◌, ◌^◌, ◌≤◌, ◌<◌, max}
use mathlib.Core.Path.{◌≡◌, refl, sym, ap, ◌∙◌}
use mathlib.Core.Bool.{Bool}
use mathlib.Core.List.{List, [], ◌∷◌}
use native.Mathlib.Omega.{arith}
use lib.Bits.{bit_and, bit_or, or_add_and, and_le_l, and_le_r}
use lib.Dec.{T, eqb, eqb→eq}
use lib.ListN.{length, get_or, take, drop}
use lib.Seq.{drop-drop}
use Rattle.bits.specs.Bits.{bit, number, stream_bit, line_bit}
use Rattle.bits.proofs.Laws.{by_lt, bit_shr, bit_none, bit-or, bit-and, bit_number, same_bits}
use Rattle.bits.proofs.Lists.{line_bit_lt, line_bit_is, line_bit_part}
use Rattle.bits.proofs.Tests.{each, at as place}
use Rattle.std.specs.Simd.{first_chunks}

-- five numbers with five others, one by one
module _ (f : ℕ → ℕ → ℕ) (z : f 0 0 ≡ 0) (o : ℕ → ℕ) (a b c d e : ℕ) where
  abbrev five : List ℕ
  five = a ∷ b ∷ c ∷ d ∷ e ∷ []

  paired : (i : ℕ) → i < 5 → get_or (f (o 0) a ∷ f (o 1) b ∷ f (o 2) c ∷ f (o 3) d ∷ f (o 4) e ∷ []) i 0 ≡ f (o i) (get_or five i 0)
  paired zero l = refl
  paired (suc zero) l = refl
  paired (suc (suc zero)) l = refl
  paired (suc (suc (suc zero))) l = refl
  paired (suc (suc (suc (suc zero)))) l = refl
  paired (suc (suc (suc (suc (suc i))))) l = absurd (omega arith)

-- ---- one more group

-- the eight bytes from a place on
abbrev loaded : List ℕ → ℕ → ℕ
loaded group k = number 64 (λ i. line_bit group (8 * k + i))

module _ (group : List ℕ) where
  abbrev numbers : List ℕ
  numbers = loaded group 0 ∷ loaded group 8 ∷ loaded group 16 ∷ loaded group 24 ∷ loaded group 32 ∷ []

  number_at : (i : ℕ) → i < 5 → get_or numbers i 0 ≡ loaded group (8 * i)
  number_at zero l = refl
  number_at (suc zero) l = refl
  number_at (suc (suc zero)) l = refl
  number_at (suc (suc (suc zero))) l = refl
  number_at (suc (suc (suc (suc zero)))) l = refl
  number_at (suc (suc (suc (suc (suc i))))) l = absurd (omega arith)

  group_bit : (n : ℕ) → n < 320 → stream_bit 64 numbers n ≡ line_bit group n
  unfolding stream_bit
  group_bit n l =
      let e : 8 * (8 * (n / 64)) + n % 64 ≡ n = omega arith in
      ap (λ (x : ℕ). bit x (n % 64)) (number_at (n / 64) (omega arith))
      ∙ bit_number 64 (λ i. line_bit group (8 * (8 * (n / 64)) + i)) (λ i m. line_bit_lt group _) (n % 64) (omega arith)
      ∙ ap (line_bit group) e

  -- its bits over those of the groups before
  pub join : (over : List ℕ) (a b c d e : ℕ) → a ≡ loaded group 0 → b ≡ loaded group 8 → c ≡ loaded group 16 → d ≡ loaded group 24 → e ≡ loaded group 32
      → (n : ℕ) → n < 320
      → stream_bit 64 (bit_or (get_or over 0 0) a ∷ bit_or (get_or over 1 0) b ∷ bit_or (get_or over 2 0) c ∷ bit_or (get_or over 3 0) d ∷ bit_or (get_or over 4 0) e ∷ []) n
      ≡ max (stream_bit 64 over n) (line_bit group n)
  unfolding stream_bit
  join over a b c d e p q r s t n l =
      ap (λ (x : ℕ). bit x (n % 64)) (paired bit_or refl (λ i. get_or over i 0) a b c d e (n / 64) (omega arith))
      ∙ bit-or (get_or over (n / 64) 0) (get_or (a ∷ b ∷ c ∷ d ∷ e ∷ []) (n / 64) 0) (n % 64)
      ∙ ap (max (stream_bit 64 over n)) (ap (λ (x : List ℕ). stream_bit 64 x n) (λ i. p i ∷ q i ∷ r i ∷ s i ∷ t i ∷ []) ∙ group_bit n l)

-- ---- all groups

-- the groups of a list of words
abbrev pub groups : List ℕ → List (List ℕ)
groups bytes = first_chunks 40 (length bytes / 40) bytes

group_at : (k i : ℕ) (bytes : List ℕ) → i < k → get_or (first_chunks 40 k bytes) i [] ≡ take 40 (drop (40 * i) bytes)
group_at zero i bytes l = absurd (omega arith)
group_at (suc k) zero bytes l = refl
group_at (suc k) (suc i) bytes l =
    let e : 40 * i + 40 ≡ 40 * suc i = omega arith in
    group_at k i (drop 40 bytes) (omega arith) ∙ ap (take 40) (drop-drop (40 * i) 40 bytes ∙ ap (λ (n : ℕ). drop n bytes) (omega (arith, e)))

-- A bit that is 0 in what is laid one over the other is 0 in each group so far.
pub record LaidSofar (bytes over : List ℕ) (count : ℕ) : Type 0 where
  pub zeros : (n : ℕ) → n < 320 → stream_bit 64 over n ≡ 0 → (g : ℕ) → g < count → line_bit bytes (320 * g + n) ≡ 0

pub first : (bytes over : List ℕ) → LaidSofar bytes over 0
first bytes over = record { zeros = λ n l z g m. absurd (omega arith) }

pub turn : (bytes over group next : List ℕ) (count : ℕ) → count < length bytes / 40 → group ≡ get_or (groups bytes) count [] → LaidSofar bytes over count
    → ((n : ℕ) → n < 320 → stream_bit 64 next n ≡ max (stream_bit 64 over n) (line_bit group n)) → LaidSofar bytes next (count + 1)
turn bytes over group next count l here w f =
    record {
      zeros =
          λ n k q g m.
          by_lt g count
          (λ h. w.zeros n k (omega (arith, f n k)) g h)
          (λ h.
          let e : 8 * (40 * count) + n ≡ 320 * g + n = omega arith in
          let x : line_bit group n ≡ 0 = omega (arith, f n k) in
          let y : line_bit group n ≡ line_bit bytes (320 * g + n) =
          ap (λ (s : List ℕ). line_bit s n) (here ∙ group_at (length bytes / 40) count bytes l) ∙ line_bit_part bytes 40 (40 * count) n (omega arith) ∙ ap (line_bit bytes) e in
          sym y ∙ x);
    }

-- ---- what is not set

or_none : (a b : ℕ) → bit_or a b ≡ 0 → (a ≡ 0) × (b ≡ 0)
or_none a b h = (omega (arith, or_add_and a b, and_le_r a b), omega (arith, or_add_and a b, and_le_l a b))

-- numbers one over the other, and that each is 0 where they are
abbrev ors : ℕ → List ℕ → ℕ
ors x [] = x
ors x (y ∷ ys) = ors (bit_or x y) ys

none_of : (x : ℕ) (ys : List ℕ) → ors x ys ≡ 0 → (i : ℕ) → get_or (x ∷ ys) i 0 ≡ 0
none_of x [] z zero = z
none_of x [] z (suc i) = refl
none_of x (y ∷ ys) z zero = (or_none x y (none_of (bit_or x y) ys z 0)).0
none_of x (y ∷ ys) z (suc zero) = (or_none x y (none_of (bit_or x y) ys z 0)).1
none_of x (y ∷ ys) z (suc (suc i)) = none_of (bit_or x y) ys z (suc i)

-- a byte whose bits 4 to 7 are 0 is below 16
low_byte : (x : ℕ) → x < 256 → ((b : ℕ) → b < 4 → bit x (4 + b) ≡ 0) → x < 16
low_byte x l f =
    let e : x / 2 ^ 4 ≡ 0 = same_bits 4 (x / 2 ^ 4) 0 (omega arith) (omega arith) (λ i m. bit_shr x 4 i ∙ f i m ∙ sym (bit_none i)) in
    omega arith

-- whether five masks ask for bits 4 to 7 of each control byte of a group
abbrev asks : List ℕ → ℕ → ℕ → Bool
asks masks j b = eqb (stream_bit 64 masks (40 * j + (4 + b))) 1

abbrev asks_all : List ℕ → Bool
asks_all masks = each (λ j. each (asks masks j) 0 4) 0 8

-- the five masks, as the code has them, and that nothing they ask for is set
module _ (over : List ℕ) (p q r s t : ℕ) where
  abbrev masks : List ℕ
  masks = p ∷ q ∷ r ∷ s ∷ t ∷ []

  abbrev others : List ℕ
  others = bit_and (get_or over 1 0) q ∷ bit_and (get_or over 2 0) r ∷ bit_and (get_or over 3 0) s ∷ bit_and (get_or over 4 0) t ∷ []

  module _ (z : ors (bit_and (get_or over 0 0) p) others ≡ 0) where
    not_set : (n : ℕ) → n < 320 → stream_bit 64 masks n ≡ 1 → stream_bit 64 over n ≡ 0
    unfolding stream_bit
    not_set n l h =
        let x = get_or over (n / 64) 0 in
        let y = get_or masks (n / 64) 0 in
        let e : bit_and x y ≡ 0 = sym (paired bit_and refl (λ i. get_or over i 0) p q r s t (n / 64) (omega arith)) ∙ none_of (bit_and (get_or over 0 0) p) others z (n / 64) in
        omega (arith, sym (bit-and x y (n % 64)) ∙ ap (λ (m : ℕ). bit m (n % 64)) e ∙ bit_none (n % 64))

    pub done : (bytes : List ℕ) → ((n : ℕ) → get_or bytes n 0 < 256) → length bytes % 40 ≡ 0 → (count : ℕ) → length bytes / 40 ≤ count → LaidSofar bytes over count
        → T (asks_all masks)
        → (i : ℕ) → 5 * i < length bytes → get_or bytes (5 * i) 0 < 16
    done bytes small whole count reached w all i l =
        low_byte (get_or bytes (5 * i) 0) (small (5 * i))
        (λ b m.
        let n = 40 * (i % 8) + (4 + b) in
        let e : 8 * (5 * i) + (4 + b) ≡ 320 * (i / 8) + n = omega arith in
        let a : T (each (asks masks (i % 8)) 0 4) = place (λ j. each (asks masks j) 0 4) 8 all (i % 8) (omega arith) in
        let h : stream_bit 64 masks n ≡ 1 = eqb→eq _ 1 (place (asks masks (i % 8)) 4 a b m) in
        sym (line_bit_is bytes (8 * (5 * i) + (4 + b)) (5 * i) (4 + b) refl (omega arith))
        ∙ ap (line_bit bytes) e
        ∙ w.zeros n (omega arith) (not_set n (omega arith) h) (i / 8) (omega arith))
