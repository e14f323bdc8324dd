-- `line::bits_at` meets its contract. Assumes nothing.
use Prim.Native.Nat.{◌+◌, ◌/◌, ◌%◌}
use native.Mathlib.Omega.{arith}
use Rattle.line.proofs.Laws.{join}
use Rattle.line.proofs.bits_at.Goals as goal

pub returns : goal.returns
returns c =
    let a = c.args in
    join a.s.now a.pos (a.pos / 8) (a.pos % 8) c.load-lo.result c.from-hi.result (omega arith) (omega arith) (omega arith)
    c.load-lo.ensures c.from-hi.ensures (omega (arith, c.from-hi.ensures, (c.type_inv.s (a.pos / 8 + 8)).fits))
