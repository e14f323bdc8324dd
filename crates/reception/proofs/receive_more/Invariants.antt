-- `reception::receive_more` meets its contract. The loop's invariant: what comes of the receiver, its room and its counts from here is what comes of them from the start. Assumes nothing.
use Prim.Native.Nat.{◌*◌, ◌-◌}
use lib.ListN.{length}
use Rattle.reception.proofs.Looping.{Looping}
use Rattle.reception.proofs.receive_more.Given as goal

abbrev pub invariant-loop-p : goal.invariant-loop-p
invariant-loop-p l = Looping l.line l.initial.room l.room l.initial.p l.p

abbrev pub decreases-loop-p : goal.decreases-loop-p
decreases-loop-p l = 8 * length l.line - l.p.pos
