-- How far two payloads are apart: what demand 3 counts.
use Rattle.std.specs.Prelude.{ℕ, ◌+◌, ◌%◌, ◌≤◌}
use Rattle.bits.specs.Bits.{bit, total}

-- how many of the n bits from bit a differ
unfoldable pub differing : ℕ → ℕ → ℕ → ℕ → ℕ
differing a n x y = total (λ i. (bit x (a + i) + bit y (a + i)) % 2) n

-- at most k of any eight payload bits in a row differ
abbrev pub Near : ℕ → ℕ → ℕ → Type 0
Near k x y = (a : ℕ) → a + 8 ≤ 64 → differing a 8 x y ≤ k
