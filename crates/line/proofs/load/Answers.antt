-- `line::load` meets its contract. Assumes nothing.
use mathlib.Core.Path.{◌∙◌}
use Prim.Native.Nat.{◌+◌, ◌-◌}
use native.Mathlib.Omega.{arith}
use Rattle.line.proofs.Laws.{loaded}
use Rattle.line.proofs.load.Goals as goal

pub returns : goal.returns
returns c =
    let a = c.args in
    let chunk = rw c.unwrap.ensures at c.try_into.ensures.1 in
    c.from_le_bytes.ensures ∙ loaded a.s.now (λ i. (c.type_inv.s i).fits) a.at (a.at + 8 - a.at) 7 c.unwrap.result (omega arith) chunk.same
