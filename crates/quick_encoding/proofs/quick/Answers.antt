-- `quick_encoding::quick` meets its contract where there are eight data octets.
use native.Mathlib.Omega.{arith}
use Rattle.quick_encoding.proofs.Looking.{data_known}
use Rattle.quick_encoding.proofs.quick.Goals as goal

pub returns-then-from-eq0-clause-quickly_coded : goal.returns-then-from-eq0-clause-quickly_coded
returns-then-from-eq0-clause-quickly_coded c ed = data_known ed c.args.c0 c.args.c1 c.args.lanes (omega arith) (omega arith)
