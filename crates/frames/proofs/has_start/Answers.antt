-- `frames::has_start` meets its contract. Assumes nothing.
use Rattle.std.proofs.Common.{arith}
use Rattle.frames.proofs.Quiet.{starts_by}
use Rattle.frames.proofs.has_start.Goals as goal

pub returns : goal.returns
returns c = starts_by c.args.word.now c.from.result c.from-2.result (omega (arith, c.from-2.ensures, c.type_inv.word 1)) c.from.ensures c.from-2.ensures
