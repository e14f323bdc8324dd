-- `carrying::bits_from` meets its contract. Assumes nothing.
use native.Mathlib.Omega.{arith}
use Rattle.carrying.proofs.Reading.{tail_from}
use Rattle.carrying.proofs.bits_from.Goals as goal

pub returns : goal.returns
returns c = tail_from c.args.line.now c.args.pos c.tail.result (omega arith) c.tail.ensures
