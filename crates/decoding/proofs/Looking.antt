-- The characters of a row by its shape, and the row and the shape of a type.
use mathlib.Core.Path.{◌≡◌, refl, ◌∙◌, ap, ap₂, subst, sym}
use mathlib.Core.Bool.{Bool, ◌||◌}
use mathlib.Core.Logic.{◌⊎◌, inl, inr}
use Prim.Native.Nat.{ℕ, ◌+◌, ◌*◌, ◌/◌, ◌%◌, ◌^◌, ◌<◌, ◌≤◌}
use native.Mathlib.Nat.{mod-eq_of_lt, eq-or-lt_of_le, eq-zero-or-pos}
use native.Mathlib.Omega.{arith}
use lib.Dec.{T, lit<, eqb, leb, eqb→eq}
use lib.ListN.{get_or}
use lib.Pow.{shr-shr}
use Rattle.block.specs.declared.Edition.{Edition}
use Rattle.block.specs.Block.{Slot, Control, Calm, Data, Set, Start, Terminate, Format, octet_of, octet_at}
use Rattle.block.specs.Rows.{width, field_at, row, row_of, slot_number}
use Rattle.bits.proofs.Tests.{both_left, both_right, or_right, not_leb, all, each, at}
use Rattle.block.proofs.Formats.{sound, sound_place, row_sound}
use Rattle.block.proofs.Reading.{place_of}
use Rattle.block.specs.Types.{types}
use Rattle.tables.proofs.Entries.{type_at}
use Rattle.shapes.specs.declared.Shape.{Shape}
use Rattle.characters.specs.Octets.{slot_at, place_in, slot_in, octet_from, four_by}
use Rattle.shapes.specs.Shapes.{type_by, OfFormat, Shapes, plain, typed}
use Rattle.shapes.proofs.Slots.{by_slot}
use Rattle.decoding.proofs.Rows.{octet_by, row_le}

-- ---- a character where its shape says

-- a slot by its number
slot_back : (k : Slot) → slot_at (slot_number k) ≡ k
slot_back Control = refl
slot_back Calm = refl
slot_back Data = refl
slot_back Set = refl
slot_back Start = refl
slot_back Terminate = refl

module _ (ed : Edition) where
  -- a place inside the payload, but for those whose bits are not looked at
  looked : (s : Slot) (a x : ℕ) → a + width s ≤ 64 → octet_of ed s (x / 2 ^ (a % 64) % 2 ^ width s) ≡ octet_of ed s (x / 2 ^ a % 2 ^ width s)
  looked Control a x h = ap (λ (n : ℕ). octet_of ed Control (x / 2 ^ n % 2 ^ 7)) (mod-eq_of_lt (omega arith))
  looked Calm a x h = ap (λ (n : ℕ). octet_of ed Calm (x / 2 ^ n % 2 ^ 7)) (mod-eq_of_lt (omega arith))
  looked Data a x h = ap (λ (n : ℕ). octet_of ed Data (x / 2 ^ n % 2 ^ 8)) (mod-eq_of_lt (omega arith))
  looked Set a x h = ap (λ (n : ℕ). octet_of ed Set (x / 2 ^ n % 2 ^ 4)) (mod-eq_of_lt (omega arith))
  looked Start a x h = refl
  looked Terminate a x h = refl

  -- it is read where its shape says
  pub read_from : (f : Format) (s : Shape) (x p : ℕ) → T (all (sound f)) → OfFormat f s → p < 8
      → octet_from ed s.places s.slots x p ≡ octet_at ed f.fields (x / 2 ^ f.lead) p
  read_from f s x p q o l =
      let t = o.reading p l in
      let a = eqb→eq (place_in s.places p) (place_of f p % 64) (both_left (eqb (place_in s.places p) (place_of f p % 64)) (eqb (slot_in s.slots p) (slot_number (field_at f.fields p).slot)) t) in
      let b = eqb→eq (slot_in s.slots p) (slot_number (field_at f.fields p).slot) (both_right (eqb (place_in s.places p) (place_of f p % 64)) (eqb (slot_in s.slots p) (slot_number (field_at f.fields p).slot)) t) in
      ap₂ (λ (n : ℕ) (k : Slot). octet_of ed k (x / 2 ^ n % 2 ^ width k)) a (ap slot_at b ∙ slot_back (field_at f.fields p).slot)
      ∙ looked (field_at f.fields p).slot (place_of f p) x (sound_place f q p l)
      ∙ sym (by_slot ed f x p q l)

-- ---- the eight characters of a row

module _ (ed : Edition) (r : ℕ) (inside : r < 16) (s : Shape) (o : OfFormat (row r) s) (x : ℕ) where
  here : (p : ℕ) → p < 8 → octet_from ed s.places s.slots x p ≡ octet_by ed r x p
  here p l = read_from ed (row r) s x p (row_sound r inside) o l

  -- the upper four places and slots
  there : (p : ℕ) → octet_from ed (s.places / 2 ^ 32) (s.slots / 2 ^ 32) x p
      ≡ octet_of ed (slot_at (s.slots / 2 ^ (32 + 8 * p) % 8)) (x / 2 ^ (s.places / 2 ^ (32 + 8 * p) % 64) % 2 ^ width (slot_at (s.slots / 2 ^ (32 + 8 * p) % 8)))
  there p =
      ap₂ (λ (m n : ℕ). octet_of ed (slot_at (n % 8)) (x / 2 ^ (m % 64) % 2 ^ width (slot_at (n % 8)))) (shr-shr s.places 32 (8 * p)) (shr-shr s.slots 32 (8 * p))

  pub low_four : {A : Type 0} (g : ℕ → ℕ → ℕ → ℕ → A) → g (octet_from ed s.places s.slots x 0) (octet_from ed s.places s.slots x 1) (octet_from ed s.places s.slots x 2) (octet_from ed s.places s.slots x 3)
      ≡ g (octet_by ed r x 0) (octet_by ed r x 1) (octet_by ed r x 2) (octet_by ed r x 3)
  low_four g = λ i. g (here 0 (lit< tt) i) (here 1 (lit< tt) i) (here 2 (lit< tt) i) (here 3 (lit< tt) i)

  pub high_four : {A : Type 0} (g : ℕ → ℕ → ℕ → ℕ → A) → g (octet_from ed (s.places / 2 ^ 32) (s.slots / 2 ^ 32) x 0) (octet_from ed (s.places / 2 ^ 32) (s.slots / 2 ^ 32) x 1) (octet_from ed (s.places / 2 ^ 32) (s.slots / 2 ^ 32) x 2) (octet_from ed (s.places / 2 ^ 32) (s.slots / 2 ^ 32) x 3)
      ≡ g (octet_by ed r x 4) (octet_by ed r x 5) (octet_by ed r x 6) (octet_by ed r x 7)
  high_four g = λ i. g ((there 0 ∙ here 4 (lit< tt)) i) ((there 1 ∙ here 5 (lit< tt)) i) ((there 2 ∙ here 6 (lit< tt)) i) ((there 3 ∙ here 7 (lit< tt)) i)

-- ---- the row and the shape of a type

-- a type is known by its low four bits
known : ℕ → Bool
known y = leb 16 (row_of y) || eqb (type_by (y % 16)) y

all_known : T (each known 0 256)
unfolding known
all_known = tt

type_known : (y : ℕ) → y < 256 → row_of y < 16 → type_by (y % 16) ≡ y
unfolding known
type_known y h l = eqb→eq (type_by (y % 16)) y (or_right (leb 16 (row_of y)) (eqb (type_by (y % 16)) y) (at known 256 all_known y h) (not_leb l))

module _ (x r : ℕ) (e : r ≡ get_or types (x % 256) 0) where
  entry_is : r ≡ row_of (x % 256) % 16
  entry_is = e ∙ type_at (x % 256) (omega arith)

  pub no_row : r ≡ 0 → 16 ≤ row_of (x % 256)
  no_row z = omega (arith, entry_is, row_le (x % 256))

  pub row_is : (r ≡ 0 → ⊥) → (r ≡ row_of (x % 256)) × (r < 16)
  row_is n = go (eq-or-lt_of_le (row_le (x % 256)))
    where
      go : (row_of (x % 256) ≡ 16) ⊎ (row_of (x % 256) < 16) → (r ≡ row_of (x % 256)) × (r < 16)
      go (inl q) = absurd (n (entry_is ∙ ap (λ (k : ℕ). k % 16) q))
      go (inr l) = let q = entry_is ∙ mod-eq_of_lt l in (q, subst (λ (k : ℕ). k < 16) (sym q) l)

  -- the shape of its low four bits is that of its row
  pub shape_is : (s : Shape) → (r ≡ 0 → ⊥) → Shapes (x % 16) s → OfFormat (row r) s
  shape_is s n w =
      let q = row_is n in
      go w (sym (ap type_by low ∙ type_known (x % 256) (omega arith) (subst (λ (k : ℕ). k < 16) q.0 q.1))) q.0 q.1
    where
      low : x % 16 ≡ x % 256 % 16
      low = omega arith

      -- no type has 0 there
      none_zero : r ≡ row_of 0 → r < 16 → ⊥
      none_zero e l = omega arith

      go : Shapes (x % 16) s → x % 256 ≡ type_by (x % 16) → r ≡ row_of (x % 256) → r < 16 → OfFormat (row r) s
      go (plain d e o) t q l = by_zero (eq-zero-or-pos (x % 16))
        where
          by_zero : (x % 16 ≡ 0) ⊎ (0 < x % 16) → OfFormat (row r) s
          by_zero (inl z) = absurd (none_zero (q ∙ ap row_of (t ∙ ap type_by z)) l)
          by_zero (inr m) = absurd (d m (omega arith))
      go (typed f o) t q l = subst (λ (k : ℕ). OfFormat (row k) s) (ap row_of (f ∙ sym t) ∙ sym q) o.format
