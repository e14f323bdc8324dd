-- `carrying::tail` meets its contract. The loop's invariant: the word holds the bytes after those left. Assumes nothing.
use Rattle.carrying.proofs.Reading.{TailSofar}
use Rattle.carrying.proofs.tail.Given as goal

abbrev pub invariant-loop-byte : goal.invariant-loop-byte
invariant-loop-byte l = TailSofar l.line l.at l.byte-iterator.iter.rest.now l.word
