-- `quick_decoding::quick` meets its contract: what a shape makes of the payload.
use native.Mathlib.Omega.{arith}
use Rattle.shapes.proofs.Quickly.{made_lt, quickly}
use Rattle.quick_decoding.proofs.quick.Goals as goal

pub overflow_cast-result-then-payload-s : goal.overflow_cast-result-then-payload-s
overflow_cast-result-then-payload-s c = record { fits = omega (arith, made_lt c.shape_of-s.result c.args.payload (omega arith) (omega arith)) }

pub returns-then-payload-s : goal.returns-then-payload-s
returns-then-payload-s c = quickly c.args.header c.args.payload _ c.shape_of-s.result c.shape_of-s.ensures.1 c.if-header-s.true c.if-payload-s.true
