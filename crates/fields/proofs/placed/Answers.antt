-- `fields::placed` meets its contract: a shift to the place that the row says.
use Rattle.fields.proofs.Fields.{placed_is}
use Rattle.fields.proofs.placed.Goals as goal

pub returns : goal.returns
returns c = rw c.from.ensures (placed_is c.args.r c.args.i c.requires.0 c.requires.1 c.places_of.result c.places_of.ensures c.args.code c.requires.2)
