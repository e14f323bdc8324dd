use mathlib.Core.Path.{◌≡◌}
use Prim.Native.Nat.{◌*◌}
use Rattle.receiving.specs.Loop.{Stretches}
use Rattle.lock_steps.specs.InLock.{InLock, ran_of}
use Rattle.locked.proofs.blocks_in_lock.Given as goal

abbrev pub invariant-loop-i : goal.invariant-loop-i
invariant-loop-i l =
    record {
      goes : Stretches l.line l.initial.room l.room l.p (ran_of l.p l.s);
      lock : InLock (ran_of l.p l.s);
      count : l.s.count ≡ 4 * l.i;
    }
