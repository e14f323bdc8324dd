-- `putting::put` meets its contract: the part is copied whole. Assumes nothing.
use native.Mathlib.Omega.{arith}
use Rattle.putting.proofs.Laws.{overlaid_whole}
use Rattle.putting.proofs.put.Goals as goal

pub returns : goal.returns
returns c = overlaid_whole c.args.at _ c.args.part.now c.args.room.now _ (omega arith) c.copy_from_slice.ensures.after
