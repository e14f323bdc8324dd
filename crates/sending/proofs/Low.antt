-- Where no control byte is above 15, each is at most 15. Assumes nothing.
use Prim.Native.Nat.{ℕ, ◌+◌, ◌*◌, ◌/◌, ◌%◌, ◌≤◌}
use mathlib.Core.Path.{◌≡◌}
use mathlib.Core.List.{List}
use native.Mathlib.Omega.{arith}
use native.Mathlib.Nat.{zero-add}
use lib.ListN.{length, get_or-eq_default}
use Rattle.bits.proofs.Laws.{by_lt}
use Rattle.control_bytes.specs.Control.{high_control, Low}
use Rattle.control_bytes.proofs.High.{low_word}

pub low : (bytes : List ℕ) (high : ℕ) → length bytes % 40 ≡ 0 → high ≡ high_control bytes → length bytes ≤ high → Low bytes
unfolding high_control
low bytes high z e l i =
    by_lt i (length bytes / 5)
    (λ m.
    let o : 0 + 5 * i ≡ 5 * i = zero-add (5 * i) in
    rw o at (low_word (length bytes / 5) 0 bytes (omega arith) i m))
    (λ m. omega (arith, get_or-eq_default bytes 0 {n = 5 * i} (omega arith)))
