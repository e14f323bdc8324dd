-- A reviewer can skip this file: characters by their slots' numbers and their places, and what is made of four of them.
use Rattle.std.specs.Prelude.{Bool, true, false, cond, ◌&&◌, ◌||◌, [], ◌∷◌, ℕ, ◌+◌, ◌*◌, ◌/◌, ◌%◌, ◌^◌, eqb, get_or, Result, Ok, Err, is_ok}
use Rattle.std.specs.Result.{result_unwrap_or}
use Rattle.block.specs.declared.Edition.{Edition}
use Rattle.block.specs.declared.Reason.{Reason}
use Rattle.block.specs.declared.Reason.TheVariants.{Header, BlockType, ControlCode, SetCode}
use Rattle.block.specs.Block.{Slot, Control, Calm, Data, Set, Start, Terminate, octet_of}
use Rattle.block.specs.Rows.{width}

-- the slots by number
abbrev pub slot_at : ℕ → Slot
slot_at n = get_or (Data ∷ Control ∷ Calm ∷ Set ∷ Start ∷ []) n Terminate

-- place p and slot p of those that stand a byte each
abbrev pub place_in : ℕ → ℕ → ℕ
place_in places p = places / 2 ^ (8 * p) % 64

abbrev pub slot_in : ℕ → ℕ → ℕ
slot_in slots p = slots / 2 ^ (8 * p) % 8

-- the octet that is read there
abbrev pub octet_from : Edition → ℕ → ℕ → ℕ → ℕ → ℕ
octet_from ed places slots x p = octet_of ed (slot_at (slot_in slots p)) (x / 2 ^ place_in places p % 2 ^ width (slot_at (slot_in slots p)))

-- what is read where a character has this octet: 256 says that its control code is bad, 512 its ordered set code
abbrev pub read_as : ℕ → Result ℕ Reason
read_as o = cond (eqb 256 o) (Err ControlCode) (cond (eqb 512 o) (Err SetCode) (Ok o))

-- four octets as lanes
abbrev pub lanes_by : ℕ → ℕ → ℕ → ℕ → ℕ
lanes_by a b c d = a % 256 + b % 256 * 256 + c % 256 * 65536 + d % 256 * 16777216

-- a character says that its control code is bad, and that some code of it is; and its octet
abbrev pub control_fault : Result ℕ Reason → Bool
control_fault (Ok o) = false
control_fault (Err Header) = false
control_fault (Err BlockType) = false
control_fault (Err ControlCode) = true
control_fault (Err SetCode) = false

abbrev pub joined : Result ℕ Reason → Result ℕ Reason → Result ℕ Reason → Result ℕ Reason → Result ℕ Reason
joined a b c d =
    cond (control_fault a || control_fault b || control_fault c || control_fault d) (Err ControlCode)
    (cond (is_ok a && is_ok b && is_ok c && is_ok d) (Ok (lanes_by (result_unwrap_or a 0) (result_unwrap_or b 0) (result_unwrap_or c 0) (result_unwrap_or d 0))) (Err SetCode))

-- four octets as lanes; else why not, a control code's fault before one of an ordered set
abbrev pub four_by : ℕ → ℕ → ℕ → ℕ → Result ℕ Reason
four_by a b c d = joined (read_as a) (read_as b) (read_as c) (read_as d)
