-- `tally::tally_of` meets its contract. Assumes nothing.
use Rattle.tally.proofs.Tallies.{Tallied}
use Rattle.tally.proofs.tally_of.Given as goal

abbrev pub invariant-loop-i : goal.invariant-loop-i
invariant-loop-i l = Tallied l.vectors l.i l.tally
