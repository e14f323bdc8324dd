-- The definitions compute: document 01's example of the receiver, and others. A reviewer can skip this file.
use Rattle.std.specs.Prelude.{◌≡◌, refl, false}
use mathlib.Core.List.{[], ◌∷◌, ◌++◌, flatten}
use Rattle.display.specs.Display.{ascii, hex_digits, hex_lines, pieces, decimal_by, decimal, summary_lines, refused_line, line_records}

-- the Local Fault vector, one tested block and one slip
printed : hex_lines (0x01 ∷ 0x9c ∷ 0 ∷ 0 ∷ 0x01 ∷ 0x01 ∷ 0x9c ∷ 0 ∷ 0 ∷ 0x01 ∷ []) ++ summary_lines 1 1 false false ≡ ascii "019c000001019c000001\ntested 1\nslips 1\nlocked 0\nhigh 0\n"
unfolding flatten pieces hex_digits decimal_by summary_lines
printed = refl

large : decimal 18446744073709551615 ≡ ascii "18446744073709551615"
unfolding decimal_by
large = refl

refusal : refused_line 8 ≡ ascii "refused 8\n"
unfolding refused_line decimal_by
refusal = refl

-- five bytes in records of at most two
cut : line_records 2 (1 ∷ 2 ∷ 3 ∷ 4 ∷ 5 ∷ []) ≡ 2 ∷ 0 ∷ 2 ∷ 0 ∷ 1 ∷ 2 ∷ 2 ∷ 0 ∷ 2 ∷ 0 ∷ 3 ∷ 4 ∷ 1 ∷ 0 ∷ 2 ∷ 0 ∷ 5 ∷ []
unfolding flatten pieces
cut = refl

-- no bytes, and a line of whole records
nothing : line_records 4092 [] ≡ []
unfolding flatten pieces
nothing = refl

whole : line_records 2 (1 ∷ 2 ∷ []) ≡ 2 ∷ 0 ∷ 2 ∷ 0 ∷ 1 ∷ 2 ∷ []
unfolding flatten pieces
whole = refl
