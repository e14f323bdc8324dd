-- `display::hex_digits` meets its contract. Assumes nothing.
use native.Mathlib.Omega.{arith}
use lib.ListN.{length-set}
use Rattle.display.proofs.Loops.{digits_first, digits_turn, digits_done}
use Rattle.display.proofs.hex_digits.Goals as goal

pub loop-b-init : goal.loop-b-init
loop-b-init c = digits_first _ _ _

pub bounds-out-e-in-loop-b : goal.bounds-out-e-in-loop-b
bounds-out-e-in-loop-b c = simp length-set (omega arith)

pub loop-b-preserved : goal.loop-b-preserved
loop-b-preserved c = digits_turn _ _ _ _ _ _ _ _ c.requires c.loop-b-test.true c.digit.ensures c.digit-in-loop-b.ensures c.loop-b.invariant

pub shape_of-out : goal.shape_of-out
shape_of-out c = c.loop-b.invariant.same

pub returns : goal.returns
returns c = digits_done _ _ _ _ _ _ c.loop-b-test.false c.loop-b.invariant
