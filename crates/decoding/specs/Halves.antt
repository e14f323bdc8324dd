-- A reviewer can skip this file: the two halves of a block as one.
use Rattle.std.specs.Prelude.{cond, ◌&&◌, ◌||◌, ℕ, Result, Ok, Err, is_ok}
use Rattle.std.specs.Result.{result_unwrap_or}
use Rattle.block.specs.declared.Reason.{Reason}
use Rattle.block.specs.declared.Reason.TheVariants.{ControlCode, SetCode}
use Rattle.characters.specs.Octets.{control_fault}

-- both halves; else why not, a control code's fault before one of an ordered set
abbrev pub both : Result ℕ Reason → Result ℕ Reason → Result (ℕ × ℕ) Reason
both low high =
    cond (control_fault low || control_fault high) (Err ControlCode)
    (cond (is_ok low && is_ok high) (Ok (result_unwrap_or low 0, result_unwrap_or high 0)) (Err SetCode))
