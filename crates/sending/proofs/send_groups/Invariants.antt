-- After g groups their line is at the start of the room.
use Rattle.sending.proofs.Whole.{SentSofar}
use Rattle.sending.proofs.send_groups.Given as goal

abbrev pub invariant-loop-g : goal.invariant-loop-g
invariant-loop-g l = SentSofar l.edition l.initial.next l.bytes l.initial.room l.room l.next l.g
