-- Document 01, 'The two programs': the bytes that they write.
use Rattle.std.specs.Prelude.{ℕ, zero, suc, ◌+◌, ◌-◌, ◌/◌, ◌%◌, Bool, cond, length, take, drop, ltb}
use Prim.Native.Char.{code}
use Prim.Native.String.{String, [] as none, ◌∷◌ as ◌then◌}
use mathlib.Core.List.{List, [], ◌∷◌, ◌++◌, map, flatten}
use Rattle.record_writing.specs.Writing.{record_of}

-- the codes of a text's characters
abbrev pub ascii : String → List ℕ
ascii none = []
ascii (c then s) = code c ∷ ascii s

-- a digit: 0 to 9, then a to f
abbrev pub hex_digit : ℕ → ℕ
hex_digit n = cond (ltb n 10) (48 + n) (87 + n)

-- two digits a byte, the higher first
unfoldable pub hex_digits : List ℕ → List ℕ
hex_digits [] = []
hex_digits (b ∷ bytes) = hex_digit (b / 16) ∷ hex_digit (b % 16) ∷ hex_digits bytes

-- "each vector as 20 hex digits", on a line
abbrev pub hex_line : (vector : List ℕ) → List ℕ
hex_line vector = hex_digits vector ++ ascii "\n"

-- a list's first k pieces of so many bytes, the last with what is left
unfoldable pub pieces : (size k : ℕ) (bytes : List ℕ) → List (List ℕ)
pieces size zero bytes = []
pieces size (suc k) bytes = take size bytes ∷ pieces size k (drop size bytes)

-- a line for each vector of ten bytes
abbrev pub hex_lines : (vectors : List ℕ) → List ℕ
hex_lines vectors = flatten (map hex_line (pieces 10 (length vectors / 10) vectors))

-- a number's decimal digits, at most k
unfoldable pub decimal_by : (k n : ℕ) → List ℕ
decimal_by zero n = []
decimal_by (suc k) n = cond (ltb n 10) (hex_digit n ∷ []) (decimal_by k (n / 10) ++ hex_digit (n % 10) ∷ [])

-- all of them: a number of 64 bits has at most 20
abbrev pub decimal : ℕ → List ℕ
decimal n = decimal_by 20 n

-- a name, a space and a number
abbrev pub number_line : (name : String) (n : ℕ) → List ℕ
number_line name n = ascii name ++ decimal n ++ ascii "\n"

abbrev pub flag : Bool → ℕ
flag b = cond b 1 0

-- "then four lines"
unfoldable pub summary_lines : (tested slips : ℕ) (locked high : Bool) → List ℕ
summary_lines tested slips locked high =
    number_line "tested " tested ++ number_line "slips " slips ++ number_line "locked " (flag locked) ++ number_line "high " (flag high)

-- "`refused`, a space and the number"
unfoldable pub refused_line : (number : ℕ) → List ℕ
refused_line number = number_line "refused " number

-- a read that failed is told apart from the end of the input
unfoldable pub input_failed_line : List ℕ
input_failed_line = ascii "input failed\n"

-- "one line record after another of 4,092 bytes, the last with what is left"; of no bytes no record
abbrev pub line_records : (limit : ℕ) (line : List ℕ) → List ℕ
line_records limit line = flatten (map (record_of 2) (pieces limit ((length line + limit - 1) / limit) line))
