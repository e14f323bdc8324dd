-- A reviewer can skip this file: the fields of a row, and which rows can carry a vector, as the numbers of the code have them.
use Rattle.std.specs.Prelude.{cond, Option, Some, None, List, [], ◌∷◌, ℕ, zero, suc, ◌+◌, ◌*◌, ◌/◌, ◌%◌, ◌^◌, eqb, ltb, get_or, take, drop}
use Rattle.block.specs.declared.Edition.{Edition}
use Rattle.block.specs.Block.{two_words, Slot, Control, Calm, Data, Set, Start, Terminate, Field, d, Format, flags_at, code_of, carries, payload_for}
use Rattle.block.specs.Rows.{bits_of, formats, row, slot_number}

-- the vector with these control bytes and eight octets, character 0 lowest
abbrev pub spread : ℕ → ℕ → ℕ → List ℕ
spread c0 c1 lanes = two_words c0 (lanes % 2 ^ 32) c1 (lanes / 2 ^ 32)

-- ---- the fields of a row, in the order of the payload

abbrev pub field_in : ℕ → ℕ → Field
field_in r i = get_or (row r).fields i (d 0)

abbrev pub place_of_field : ℕ → ℕ → ℕ
place_of_field r i = (row r).lead + bits_of (take i (row r).fields)

-- the slots by number
abbrev pub slot_of : ℕ → Slot
slot_of zero = Data
slot_of (suc zero) = Control
slot_of (suc (suc zero)) = Calm
slot_of (suc (suc (suc zero))) = Set
slot_of (suc (suc (suc (suc zero)))) = Start
slot_of (suc (suc (suc (suc (suc n))))) = Terminate

-- n bytes in a word, that of i lowest
abbrev pub bytes_in_word : (ℕ → ℕ) → ℕ → ℕ → ℕ
bytes_in_word f i zero = 0
bytes_in_word f i (suc n) = f i + 2 ^ 8 * bytes_in_word f (suc i) n

-- of each field its character and its slot, and its place
unfoldable pub fields_by : ℕ → ℕ
fields_by r = bytes_in_word (λ i. (field_in r i).char + 8 * slot_number (field_in r i).slot) 0 8

unfoldable pub places_by : ℕ → ℕ
places_by r = bytes_in_word (λ i. place_of_field r i % 64) 0 8

-- ---- the rows that can carry a vector: those with its control bits

abbrev pub flags_of : Format → ℕ
flags_of f = flags_at f.fields 0 + 16 * flags_at f.fields 4

-- the first format of a list with these control bits, or its length
abbrev pub seek : ℕ → List Format → ℕ
seek m [] = 0
seek m (f ∷ fs) = cond (eqb (flags_of f) m) 0 (suc (seek m fs))

abbrev pub first_by : ℕ → ℕ
first_by m = seek m formats

-- the next row with the control bits of row r
abbrev pub next_by : ℕ → ℕ
next_by r = suc r + seek (flags_of (row r)) (drop (suc r) formats)

-- ---- what the functions answer

-- the code of field i of row r
abbrev pub field_code : Edition → ℕ → ℕ → ℕ → ℕ
field_code ed r i lanes = code_of ed (field_in r i).slot (lanes / 2 ^ (8 * (field_in r i).char) % 2 ^ 8)

-- a code is below 256; what is not says that there is none
abbrev pub code_as : ℕ → Option ℕ
code_as n = cond (ltb n 256) (Some n) None

-- the payload of a format, where it carries the vector
abbrev pub sum_by : Edition → List ℕ → Format → Option ℕ
sum_by ed v f = cond (carries ed v f.fields) (Some (payload_for ed v f)) None
