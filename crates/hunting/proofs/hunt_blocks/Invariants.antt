use Prim.Native.Nat.{◌-◌, ◌*◌}
use lib.ListN.{length}
use Rattle.receiving.specs.Loop.{Stretches}
use Rattle.hunting.specs.Unlocked.{after_search}
use Rattle.hunting.proofs.hunt_blocks.Given as goal

abbrev pub invariant-loop-p : goal.invariant-loop-p
invariant-loop-p l = Stretches l.line l.initial.room l.room (after_search l.p l.initial.s) (after_search l.p l.s)

abbrev pub decreases-loop-p : goal.decreases-loop-p
decreases-loop-p l = 8 * length l.line - l.s.pos
