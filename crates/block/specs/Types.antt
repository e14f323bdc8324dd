-- Document 01, 'Block formats': "What a type byte means is read from one constant table of 256 entries", here by its rule.
use Rattle.std.specs.Prelude.{Bool, false, ◌||◌, List, [], ◌∷◌, map, ℕ, zero, suc, ◌%◌, eqb}
use Rattle.block.specs.Block.{Format}
use Rattle.block.specs.Rows.{row_of}

-- the numbers from i on, n of them
abbrev pub upto : ℕ → ℕ → List ℕ
upto i zero = []
upto i (suc n) = i ∷ upto (suc i) n

-- the row of each type byte, 0 for a byte that is no type
unfoldable pub types : List ℕ
types = map (λ (y : ℕ). row_of y % 16) (upto 0 256)

-- a byte that is the type of one of these formats: with `control_blocks`, a type of Figure 49-7
abbrev pub is_type : List Format → ℕ → Bool
is_type [] y = false
is_type (f ∷ fs) y = eqb f.type y || is_type fs y
