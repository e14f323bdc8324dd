-- Laws of the counters: one at the top stays there, and what two calls add adds up. Assumes nothing.
use Prim.Native.Nat.{ℕ, ◌+◌}
use mathlib.Core.Path.{◌≡◌}
use native.Mathlib.Omega.{arith}
use Rattle.receiving.specs.Parts.{plus, plus_handed}
use Rattle.receiving.specs.declared.Counts.{Counts}
use Rattle.receiving.specs.declared.Handed.{Handed}
use Rattle.counters.specs.Counters.{becomes, updated}
use Rattle.counters.specs.declared.Counters.{Counters}

-- "stays at 4,294,967,295 once it would pass that"
pub top_stays : (n : ℕ) → becomes 4294967295 n ≡ 4294967295
unfolding becomes
top_stays n = omega arith

-- what is added in two steps is added in one
pub twice : (old a b : ℕ) → becomes (becomes old a) b ≡ becomes old (a + b)
unfolding becomes
twice old a b = omega arith

-- the same of the whole record: two calls in a row add up
pub updated_twice : (c : Counters) (a b : Counts) (h k : Handed) → updated (updated c a h) b k ≡ updated c (plus a b) (plus_handed h k)
updated_twice c a b h k = simp twice
