-- A reviewer can skip this file: the constant table of types as the code has it, sixteen entries of four bits to a word.
use Rattle.std.specs.Prelude.{List, [], ◌∷◌, map, ℕ, ◌+◌, ◌*◌, ◌%◌}
use Rattle.block.specs.Rows.{row_of}
use Rattle.block.specs.Types.{upto}

-- n numbers of four bits as one, the first lowest; and sixteen entries
abbrev pub fours : List ℕ → ℕ
fours [] = 0
fours (a ∷ l) = a + 16 * fours l

unfoldable pub type_word : ℕ → ℕ
type_word k = fours (map (λ (y : ℕ). row_of y % 16) (upto (16 * k) 16))
