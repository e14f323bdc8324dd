-- What the sixteen formats have in common, and the format that a block's type finds.
use mathlib.Core.Path.{◌≡◌, refl, ◌∙◌, ap, sym}
use mathlib.Core.Bool.{Bool, true, false, cond, ◌&&◌, ◌||◌}
use mathlib.Core.List.{List, [], ◌∷◌}
use Prim.Native.Nat.{ℕ, suc, ◌+◌, ◌/◌, ◌%◌, ◌^◌, ◌<◌, ◌≤◌, zero-le}
use native.Mathlib.Nat.{div-one}
use native.Mathlib.Omega.{arith}
use lib.Dec.{T, lit≤, eqb, ltb, leb, ltb→lt, leb→le, eqb→eq}
use lib.ListN.{length, get_or, get_or-eq_default}
use lib.Pow.{shr-shr}
use Rattle.block.specs.declared.Edition.{Edition}
use Rattle.block.specs.Block.{Slot, Control, Calm, Data, Set, Start, Terminate, Field, Format, no_format, data_block, control_blocks, octet_of, control_bit, octet_at, flag_at, flags_at, by_type, format_of, place_at}
use Rattle.block.specs.Rows.{width, field_at, bits_of, formats, row, row_of, index_of, format_row}
use Rattle.bits.proofs.Tests.{both_left, both_right, or_right, all, holds, every, every_at, each, at, eight}

-- ---- the field of a character

-- character p has a field
abbrev pub has : List Field → ℕ → Bool
has [] p = false
has (f ∷ fs) p = cond (eqb f.char p) true (has fs p)

module _ (ed : Edition) where
  -- where the fields are read one after the other, that of p is read at its place
  pub octet_at_lem : (fs : List Field) (x p : ℕ) → T (has fs p)
      → octet_at ed fs x p ≡ octet_of ed (field_at fs p).slot (x / 2 ^ place_at fs p % 2 ^ (field_at fs p).bits)
  octet_at_lem [] x p h = absurd h
  octet_at_lem (f ∷ fs) x p h = go (eqb f.char p) h (octet_at_lem fs (x / 2 ^ f.bits) p)
    where
      go : (b : Bool) → T (cond b true (has fs p))
          → (T (has fs p) → octet_at ed fs (x / 2 ^ f.bits) p ≡ octet_of ed (field_at fs p).slot (x / 2 ^ f.bits / 2 ^ place_at fs p % 2 ^ (field_at fs p).bits))
          → cond b (octet_of ed f.slot (x % 2 ^ f.bits)) (octet_at ed fs (x / 2 ^ f.bits) p)
          ≡ octet_of ed (cond b f (field_at fs p)).slot (x / 2 ^ cond b 0 (f.bits + place_at fs p) % 2 ^ (cond b f (field_at fs p)).bits)
      go true h ih = ap (λ (y : ℕ). octet_of ed f.slot (y % 2 ^ f.bits)) (sym (div-one x))
      go false h ih =
          ih h
          ∙ ap (λ (y : ℕ). octet_of ed (field_at fs p).slot (y % 2 ^ (field_at fs p).bits)) (shr-shr x f.bits (place_at fs p))

pub flag_at_lem : (fs : List Field) (p : ℕ) → T (has fs p) → flag_at fs p ≡ control_bit (field_at fs p).slot
flag_at_lem [] p h = absurd h
flag_at_lem (f ∷ fs) p h = go (eqb f.char p) h (flag_at_lem fs p)
  where
    go : (b : Bool) → T (cond b true (has fs p)) → (T (has fs p) → flag_at fs p ≡ control_bit (field_at fs p).slot)
        → cond b (control_bit f.slot) (flag_at fs p) ≡ control_bit (cond b f (field_at fs p)).slot
    go true h ih = refl
    go false h ih = ih h

-- ---- control bits and control bytes

bit_le : (s : Slot) → control_bit s ≤ 1
bit_le Control = lit≤ tt
bit_le Calm = lit≤ tt
bit_le Data = lit≤ tt
bit_le Set = lit≤ tt
bit_le Start = lit≤ tt
bit_le Terminate = lit≤ tt

pub flag_le : (fs : List Field) (p : ℕ) → flag_at fs p ≤ 1
flag_le [] p = zero-le
flag_le (f ∷ fs) p = go (eqb f.char p) (flag_le fs p)
  where
    go : (b : Bool) → flag_at fs p ≤ 1 → cond b (control_bit f.slot) (flag_at fs p) ≤ 1
    go true ih = bit_le f.slot
    go false ih = ih

pub flags_lt : (fs : List Field) (p : ℕ) → flags_at fs p < 16
flags_lt fs p = omega (arith, flag_le fs p, flag_le fs (p + 1), flag_le fs (p + 2), flag_le fs (p + 3))

-- ---- a sound format: eight fields, one for each character, each with room for its codes, 64 bits with the type

abbrev pub roomy : List Field → Bool
roomy [] = true
roomy (f ∷ fs) = leb (width f.slot) f.bits && roomy fs

abbrev pub full : List Field → List Bool
full fs = has fs 0 ∷ has fs 1 ∷ has fs 2 ∷ has fs 3 ∷ has fs 4 ∷ has fs 5 ∷ has fs 6 ∷ has fs 7 ∷ []

-- Start and Terminate look at no bits of their field
abbrev pub blind : Slot → Bool
blind Control = false
blind Calm = false
blind Data = false
blind Set = false
blind Start = true
blind Terminate = true

-- the field of character p is as wide as its codes, and lies inside the payload
abbrev pub placed : Format → ℕ → List Bool
placed f p =
    (blind (field_at f.fields p).slot || eqb (field_at f.fields p).bits (width (field_at f.fields p).slot))
    ∷ leb (f.lead + place_at f.fields p + width (field_at f.fields p).slot) 64
    ∷ leb (field_at f.fields p).bits 8
    ∷ []

abbrev pub sound : Format → List Bool
sound f =
    eqb (length f.fields) 8
    ∷ roomy f.fields
    ∷ eqb (f.lead + bits_of f.fields) 64
    ∷ ltb f.type (2 ^ f.lead)
    ∷ all (full f.fields)
    ∷ each (λ p. all (placed f p)) 0 8
    ∷ []

pub all_sound : T (every (λ f. all (sound f)) formats)
all_sound = tt

module _ (f : Format) (s : T (all (sound f))) where
  pub sound_length : length f.fields ≡ 8
  sound_length = eqb→eq (length f.fields) 8 (holds (sound f) 0 s)

  pub sound_roomy : T (roomy f.fields)
  sound_roomy = holds (sound f) 1 s

  pub sound_bits : f.lead + bits_of f.fields ≡ 64
  sound_bits = eqb→eq (f.lead + bits_of f.fields) 64 (holds (sound f) 2 s)

  pub sound_type : f.type < 2 ^ f.lead
  sound_type = ltb→lt f.type (2 ^ f.lead) (holds (sound f) 3 s)

  pub sound_has : (p : ℕ) → p < 8 → T (has f.fields p)
  sound_has =
      let t : T (all (full f.fields)) = holds (sound f) 4 s in
      eight (λ (p : ℕ). T (has f.fields p))
      (holds (full f.fields) 0 t) (holds (full f.fields) 1 t) (holds (full f.fields) 2 t) (holds (full f.fields) 3 t)
      (holds (full f.fields) 4 t) (holds (full f.fields) 5 t) (holds (full f.fields) 6 t) (holds (full f.fields) 7 t)

  sound_placed : (p : ℕ) → p < 8 → T (all (placed f p))
  sound_placed = at (λ p. all (placed f p)) 8 (holds (sound f) 5 s)

  pub sound_width : (p : ℕ) → p < 8 → (T (blind (field_at f.fields p).slot) → ⊥) → (field_at f.fields p).bits ≡ width (field_at f.fields p).slot
  sound_width p h n =
      eqb→eq (field_at f.fields p).bits (width (field_at f.fields p).slot)
      (or_right (blind (field_at f.fields p).slot) (eqb (field_at f.fields p).bits (width (field_at f.fields p).slot)) (holds (placed f p) 0 (sound_placed p h)) n)

  pub sound_place : (p : ℕ) → p < 8 → f.lead + place_at f.fields p + width (field_at f.fields p).slot ≤ 64
  sound_place p h = leb→le (f.lead + place_at f.fields p + width (field_at f.fields p).slot) 64 (holds (placed f p) 1 (sound_placed p h))

  pub sound_small : (p : ℕ) → p < 8 → (field_at f.fields p).bits ≤ 8
  sound_small p h = leb→le (field_at f.fields p).bits 8 (holds (placed f p) 2 (sound_placed p h))

-- ---- the formats by number

pub row_sound : (r : ℕ) → r < 16 → T (all (sound (row r)))
row_sound r h = every_at (λ f. all (sound f)) formats no_format r all_sound h

pub row_none : (r : ℕ) → 16 ≤ r → row r ≡ no_format
row_none r h = get_or-eq_default formats no_format h

pub by_index : (fs : List Format) (y : ℕ) → by_type fs y ≡ get_or fs (index_of fs y) no_format
by_index [] y = refl
by_index (f ∷ fs) y = go (eqb f.type y) (by_index fs y)
  where
    go : (b : Bool) → by_type fs y ≡ get_or fs (index_of fs y) no_format
        → cond b f (by_type fs y) ≡ get_or (f ∷ fs) (cond b 0 (suc (index_of fs y))) no_format
    go true ih = refl
    go false ih = ih

pub row_format : (h x : ℕ) → row (format_row h x) ≡ format_of h x
row_format h x = go (eqb h 2) (eqb h 1)
  where
    go : (a b : Bool) → row (cond a 0 (cond b (row_of (x % 2 ^ 8)) 16)) ≡ cond a (row 0) (cond b (by_type control_blocks (x % 2 ^ 8)) no_format)
    go true b = refl
    go false true = sym (by_index control_blocks (x % 2 ^ 8))
    go false false = refl

-- ---- the format that a type finds

-- what follows from a test that every format passes, and holds of none, holds of the one that is found
pub of_type : (P : Format → Type 0) (q : Format → Bool) (fs : List Format) → T (every q fs) → ((f : Format) → T (q f) → P f) → P no_format → (y : ℕ) → P (by_type fs y)
of_type P q [] t g n y = n
of_type P q (f ∷ fs) t g n y = go (eqb f.type y) (of_type P q fs (both_right (q f) (every q fs) t) g n y)
  where
    go : (b : Bool) → P (by_type fs y) → P (cond b f (by_type fs y))
    go true ih = g f (both_left (q f) (every q fs) t)
    go false ih = ih

-- what a test says of every format it says of the one that is found
pub found : (q : Format → Bool) (fs : List Format) (y : ℕ) → T (every q fs) → (by_type fs y ≡ no_format → ⊥) → T (q (by_type fs y))
found q fs y t n = of_type (λ f. (f ≡ no_format → ⊥) → T (q f)) q fs t (λ f u m. u) (λ m. absurd (m refl)) y n

pub of_format : (P : Format → Type 0) (q : Format → Bool) → T (every q formats) → ((f : Format) → T (q f) → P f) → P no_format → (h x : ℕ) → P (format_of h x)
of_format P q t g n h x = go (eqb h 2) (eqb h 1)
  where
    go : (a b : Bool) → P (cond a data_block (cond b (by_type control_blocks (x % 2 ^ 8)) no_format))
    go true b = g data_block (both_left (q data_block) (every q control_blocks) t)
    go false true = of_type P q control_blocks (both_right (q data_block) (every q control_blocks) t) g n (x % 2 ^ 8)
    go false false = n
