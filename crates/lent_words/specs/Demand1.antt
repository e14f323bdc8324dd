-- Demand 1 of calls through C, what they share: the summary of a refusal.
use Rattle.std.specs.Prelude.{ℕ, ◌*◌, cond, List, ◌++◌, length, drop, replicate}
use Rattle.lent_words.specs.Words.{too_short}

-- zeros for its words; one too short for them stays unchanged
abbrev pub zeroed : (words : ℕ) (summary : List ℕ) → List ℕ
zeroed words summary = cond (too_short 8 words (length summary)) summary (replicate (8 * words) 0 ++ drop (8 * words) summary)
