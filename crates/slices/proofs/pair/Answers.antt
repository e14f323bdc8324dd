-- `slices::pair` meets its contract. Assumes nothing.
use native.Mathlib.Omega.{arith}
use Rattle.slices.proofs.Laws.{pair_bytes}
use Rattle.slices.proofs.pair.Goals as goal

pub returns : goal.returns
returns c = rw (c.from.ensures, c.from-2.ensures) (pair_bytes c.args.a c.args.b (omega arith))
