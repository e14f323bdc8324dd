-- A reviewer can skip this file: what makes a shape that of a format.
use Rattle.std.specs.Prelude.{◌≡◌, List, [], ◌∷◌, Bool, cond, not, ◌&&◌, ◌||◌, ℕ, ◌+◌, ◌-◌, ◌*◌, ◌/◌, ◌%◌, ◌^◌, ◌<◌, T, eqb}
use Rattle.block.specs.declared.Edition.TheVariants.{Old, New}
use Rattle.block.specs.Block.{Slot, Control, Calm, Data, Set, Start, Terminate, Format, control_blocks, octet_of, flags_at, good, place_at}
use Rattle.block.specs.Rows.{width, field_at, row, row_of, slot_number}
use Rattle.characters.specs.Octets.{place_in, slot_in}
use Rattle.shapes.specs.declared.Shape.{Shape}

-- the type of a control block by its low four bits, 0 if there is none
abbrev pub type_in : List Format → ℕ → ℕ
type_in [] n = 0
type_in (f ∷ fs) n = cond (eqb (f.type % 16) n) f.type (type_in fs n)

abbrev pub type_by : ℕ → ℕ
type_by n = type_in control_blocks n

-- byte p of a number
abbrev pub byte_at : ℕ → ℕ → ℕ
byte_at n p = n / 2 ^ (8 * p) % 2 ^ 8

module _ (f : Format) (s : Shape) (p : ℕ) where
  -- where the field of character p begins
  abbrev pub field_start : ℕ
  field_start = f.lead + place_at f.fields p

  -- a data octet stands the shift above its lane
  abbrev pub suits_data : Bool
  suits_data = eqb field_start (8 * p + s.shift) && eqb (byte_at s.lanes p) 255 && eqb (byte_at s.fixed p) 0

  -- the code of any other character is among those that are 0, and its octet is then the fixed one, in each edition
  abbrev pub suits_code : Slot → Bool
  suits_code k =
      eqb (s.codes / 2 ^ field_start % 2 ^ width k) (2 ^ width k - 1) && eqb (s.first / 2 ^ field_start % 2 ^ width k) 0
      && eqb (byte_at s.lanes p) 0
      && eqb (octet_of Old k 0) (byte_at s.fixed p)
      && eqb (octet_of New k 0) (byte_at s.fixed p)

  abbrev pub suits_slot : Slot → Bool
  suits_slot Data = suits_data
  suits_slot Control = suits_code Control
  suits_slot Calm = suits_code Calm
  suits_slot Set = suits_code Set
  suits_slot Start = suits_code Start
  suits_slot Terminate = suits_code Terminate

  abbrev pub suits_at : Bool
  suits_at = suits_slot (field_at f.fields p).slot

  -- where the character is read; a Terminate at the end of the payload is read at 0
  abbrev pub reads_at : Bool
  reads_at = eqb (place_in s.places p) (field_start % 64) && eqb (slot_in s.slots p) (slot_number (field_at f.fields p).slot)

-- a shape is that of a format: its control bytes, its class, that it is not low power idle, and each character
pub record OfFormat (f : Format) (s : Shape) : Type 0 where
  pub low : s.c0 ≡ flags_at f.fields 0
  pub high : s.c1 ≡ flags_at f.fields 4
  pub class : s.class ≡ good f.kind
  pub awake : T (not (eqb f.type 0x1e) || eqb (byte_at s.fixed 0) 7 && eqb (byte_at s.lanes 0) 0)
  pub characters : (p : ℕ) → p < 8 → T (suits_at f s p)
  pub reading : (p : ℕ) → p < 8 → T (reads_at f s p)

-- a control block is known by its type
pub record OfType (s : Shape) : Type 0 where
  pub head : s.header ≡ 1
  pub inside : row_of s.first < 16
  pub whole : s.codes % 2 ^ 8 ≡ 2 ^ 8 - 1
  pub byte : s.first < 2 ^ 8
  pub format : OfFormat (row (row_of s.first)) s

-- shapes 1 to 15 are those of the types with these low four bits, and any other is that of data
pub data Shapes (n : ℕ) (s : Shape) : Type 0 where
  plain : (0 < n → n < 16 → ⊥) → s.header ≡ 2 → OfFormat (row 0) s → Shapes n s
  typed : s.first ≡ type_by n → OfType s → Shapes n s
