-- A reviewer can skip this file: what the private functions answer.
use Rattle.std.specs.Prelude.{cond, Option, Some, None, List, ℕ, ◌+◌, ◌*◌, get_or}
use Rattle.block.specs.Block.{is_error}
use Rattle.block.specs.declared.Coded.{Coded}

-- four bytes as lanes
abbrev pub lanes_at : List ℕ → ℕ → ℕ
lanes_at v p = get_or v p 0 + get_or v (p + 1) 0 * 256 + get_or v (p + 2) 0 * 65536 + get_or v (p + 3) 0 * 16777216

-- a vector of kind E has no block
abbrev pub carried_by : Coded → Option Coded
carried_by c = cond (is_error c.kind) None (Some c)
