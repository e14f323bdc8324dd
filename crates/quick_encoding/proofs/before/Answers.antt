-- `quick_encoding::before` meets its contract: a number that is not the one that is looked up is not that of the control bits.
use Prim.Native.Nat.{◌+◌, ◌*◌}
use native.Mathlib.Omega.{arith}
use Rattle.quick_encoding.proofs.Looking.{before_is, one_more_lem}
use Rattle.quick_encoding.proofs.before.Goals.{else-k-lt8-via-then-k-lt8+else-from-k-eq256, else-k-lt8-via-else-k-lt8}
use Rattle.quick_encoding.proofs.before.Goals as goal

pub returns-else-k-lt8-clause-other : goal.returns-else-k-lt8-clause-other
returns-else-k-lt8-clause-other c j h e =
    let args = c.args in
    let k = before_is j h args.c0 args.c1 c.requires.0 c.requires.1 e in
    elim c.else-k-lt8.branch [
      | else-k-lt8-via-then-k-lt8+else-from-k-eq256 w ↦ w.if-from-k-eq256.false (omega (arith, w.from.ensures, w.from-then-k-lt8.ensures, one_more_lem (args.c0 + 16 * args.c1) _ j h k e))
      | else-k-lt8-via-else-k-lt8 w ↦ omega (arith, k)
    ]
