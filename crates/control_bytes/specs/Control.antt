-- The control bytes of a list of words, document 01: "A word is five bytes: a control byte .., then lanes 0 to 3", and its refusal 5.
use Rattle.std.specs.Prelude.{ℕ, zero, suc, ◌+◌, ◌*◌, ◌/◌, ◌≤◌, cond, List, ltb, length, get_or}
use Rattle.refusals.specs.First.{Check, check_at}

-- Refusal 5: "byte offset of the first" control byte above 15, of n words of five bytes from offset p on; past these words if there is none.
unfoldable pub high_from : ℕ → ℕ → List ℕ → ℕ
high_from zero p bytes = p
high_from (suc n) p bytes = cond (ltb 15 (get_or bytes p 0)) p (high_from n (p + 5) bytes)

-- the same of a whole list of words: the length of the list if there is none
unfoldable pub high_control : List ℕ → ℕ
high_control bytes = high_from (length bytes / 5) 0 bytes

-- "5: a control byte above 15; byte offset of the first"
abbrev pub control_check : List ℕ → Check
control_check bytes = check_at 5 (high_control bytes) (ltb (high_control bytes) (length bytes))

-- no control byte is above 15
abbrev pub Low : List ℕ → Type 0
Low bytes = (i : ℕ) → get_or bytes (5 * i) 0 ≤ 15
