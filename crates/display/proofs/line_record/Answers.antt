-- `display::line_record` meets its contract. Assumes nothing.
use native.Mathlib.Omega.{arith}
use Rattle.display.proofs.Loops.{record_written}
use Rattle.display.proofs.line_record.Goals as goal

pub returns : goal.returns
returns c = record_written _ c.args.body.now _ _ (omega (arith, c.requires)) (rw c.number.ensures.0 at c.put.ensures)
