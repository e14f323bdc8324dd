-- `index_search::halve` calls itself: the measure is the length of the range. Assumes nothing.
use Rattle.index_search.proofs.+halve.Given as goal

abbrev pub decreases-halve : goal.decreases-halve
decreases-halve l = l.len
