-- Document 02, 8/13: "How many from a up to but not b".
use Rattle.std.specs.Prelude.{ℕ, ◌+◌, ◌-◌, ◌*◌, ◌/◌, ◌%◌, min, Bool, List, take, drop}
use Rattle.bits.specs.Lists.{how_many}

-- "the full count": how many of the vectors from a up to but not b pass a test
abbrev pub full_count : (List ℕ → Bool) → List (List ℕ) → (a b : ℕ) → ℕ
full_count test vs a b = how_many test (take (b - a) (drop a vs))

-- up to but not vector a, "one entry and the count over at most 63 vectors"; `number_at` reads an entry of an index
abbrev pub count_up_to : (List ℕ → Bool) → (number_at : ℕ → ℕ) → List (List ℕ) → ℕ → ℕ
count_up_to test number_at vs a = number_at (a / 64) + how_many test (take (a % 64) (drop (64 * (a / 64)) vs))

-- "for each end", "subtracts, and holds the result to 0 through b - a"
abbrev pub count_between : (List ℕ → Bool) → (number_at : ℕ → ℕ) → List (List ℕ) → (a b : ℕ) → ℕ
count_between test number_at vs a b = min (count_up_to test number_at vs b - count_up_to test number_at vs a) (b - a)
