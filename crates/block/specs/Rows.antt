-- A reviewer can skip this file: the parts of a format by their numbers, which the laws and the tables of the code speak of.
use Rattle.std.specs.Prelude.{◌≡◌, List, [], ◌∷◌, cond, ℕ, suc, ◌+◌, ◌%◌, ◌^◌, eqb, get_or}
use Rattle.block.specs.Block.{Slot, Control, Calm, Data, Set, Start, Terminate, Field, d, Format, no_format, data_block, control_blocks, flags_at}

-- the bits that a slot's codes take
abbrev pub width : Slot → ℕ
width Control = 7
width Calm = 7
width Data = 8
width Set = 4
width Start = 0
width Terminate = 0

-- the number of a slot
abbrev pub slot_number : Slot → ℕ
slot_number Data = 0
slot_number Control = 1
slot_number Calm = 2
slot_number Set = 3
slot_number Start = 4
slot_number Terminate = 5

-- the field of character p
abbrev pub field_at : List Field → ℕ → Field
field_at [] p = d p
field_at (f ∷ fs) p = cond (eqb f.char p) f (field_at fs p)

-- the bits of some fields
abbrev pub bits_of : List Field → ℕ
bits_of [] = 0
bits_of (f ∷ fs) = f.bits + bits_of fs

-- the formats by number: row 0 the data block, rows 1 to 15 the control blocks, 16 none
abbrev pub formats : List Format
formats = data_block ∷ control_blocks

abbrev pub row : ℕ → Format
row r = get_or formats r no_format

abbrev pub index_of : List Format → ℕ → ℕ
index_of [] y = 0
index_of (f ∷ fs) y = cond (eqb f.type y) 0 (suc (index_of fs y))

-- the row of a type, and of a block
abbrev pub row_of : ℕ → ℕ
row_of y = suc (index_of control_blocks y)

abbrev pub format_row : ℕ → ℕ → ℕ
format_row h x = cond (eqb h 2) 0 (cond (eqb h 1) (row_of (x % 2 ^ 8)) 16)

-- a vector has the control bytes of a format
abbrev pub SameFlags : List ℕ → Format → Type 0
SameFlags v f = (get_or v 0 0 ≡ flags_at f.fields 0) × (get_or v 5 0 ≡ flags_at f.fields 4)
