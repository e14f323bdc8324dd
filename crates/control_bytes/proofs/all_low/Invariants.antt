-- `control_bytes::all_low` meets its contract. The loop's invariant: a bit that is 0 in what is laid one over the other is 0 in each group so
-- far. Assumes nothing.
use Rattle.control_bytes.proofs.Laid.{LaidSofar}
use Rattle.control_bytes.proofs.all_low.Given as goal

abbrev pub invariant-loop-group : goal.invariant-loop-group
invariant-loop-group l = LaidSofar l.bytes l.over l.group-index
