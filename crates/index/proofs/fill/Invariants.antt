-- `index::fill` meets its contract. Assumes nothing.
use Rattle.index.proofs.Filling.{Filled}
use Rattle.index.proofs.fill.Given as goal

abbrev pub invariant-loop-k : goal.invariant-loop-k
invariant-loop-k l = Filled l.bytes l.initial.index l.before.errors l.before.starts l.k l.index
