-- A reviewer can skip this file. How many groups of four blocks come.
use Rattle.std.specs.Prelude.{ℕ, ◌+◌, ◌*◌, ◌/◌, ◌≤◌, ◌<◌}
use Rattle.receiving.specs.declared.Progress.{Progress}

-- n groups of four blocks end neither a line of so many bytes nor the window
abbrev pub Groups : ℕ → Progress → ℕ → Type 0
Groups bytes p n = (p.pos / 8 + 33 * n + 1 ≤ bytes) × (p.receiver.link.rate.blocks + 4 * n < 19531)
