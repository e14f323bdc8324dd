-- `encoding::pack` meets its contract: the fields are filled one after the other.
use Rattle.fields.specs.Parts.{spread}
use Rattle.fields.proofs.Packing.{Filled}
use Rattle.encoding.proofs.pack.Given as goal

abbrev pub invariant-loop-i : goal.invariant-loop-i
invariant-loop-i l = Filled l.edition l.r (spread l.c0 l.c1 l.lanes) l.i l.payload
