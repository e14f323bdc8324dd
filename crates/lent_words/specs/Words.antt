-- What every call through C answers and is lent, document 01, 'What the probe's library covers': "Through C the summary goes into a lent slice
-- of its own, which takes the zeros of a refusal; one too short for it is refusal 4 and stays unchanged."
use Rattle.std.specs.Prelude.{ℕ, ◌+◌, ◌*◌, Bool, cond, not, List, [], ◌∷◌, ◌++◌, length, take, drop, ltb, eqb}
use Rattle.bits.specs.Bits.{bit, number, line_bit, cut}
use Rattle.refusals.specs.First.{Check, Verdict, accepted, refused}

-- The result: 0, or a refusal's number and 256 times its place.
abbrev pub result_of : Verdict → ℕ
result_of accepted = 0
result_of (refused number place) = number + 256 * place

-- a list of checks with one more after the first k
abbrev pub one_more_after : ℕ → Check → List Check → List Check
one_more_after k c checks = take k checks ++ c ∷ drop k checks

-- ---- words of k bytes each, the lowest byte first

abbrev pub word_bytes : (k : ℕ) → List ℕ → List ℕ
word_bytes k [] = []
word_bytes k (w ∷ ws) = cut 8 (bit w) k ++ word_bytes k ws

-- word i of a slice
unfoldable pub word_at : (k : ℕ) → List ℕ → ℕ → ℕ
word_at k bytes i = number (8 * k) (λ j. line_bit bytes (8 * k * i + j))

-- whether a slice of so many bytes is too short for n words of k bytes
abbrev pub too_short : (k n bytes : ℕ) → Bool
too_short k n bytes = ltb bytes (k * n)

-- a summary has words of 64 bits: the slice once n of them went to its start; one too short stays unchanged
unfoldable pub summary_with : ℕ → List ℕ → List ℕ → List ℕ
summary_with n words summary = cond (too_short 8 n (length summary)) summary (word_bytes 8 words ++ drop (8 * n) summary)

-- 1 for true, 0 for false
abbrev pub flag_word : Bool → ℕ
flag_word b = cond b 1 0

-- any number but 0 is a yes
abbrev pub yes : ℕ → Bool
yes n = not (eqb n 0)
