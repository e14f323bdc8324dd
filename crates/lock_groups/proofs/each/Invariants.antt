use mathlib.Core.Path.{◌≡◌}
use Prim.Native.Nat.{◌+◌, ◌-◌, ◌*◌}
use Rattle.receiving.specs.Loop.{Stretches}
use Rattle.lock_steps.specs.InLock.{InLock, ran_of}
use Rattle.lock_groups.specs.FourInLock.{Ahead}
use Rattle.lock_groups.proofs.each.Given as goal

abbrev pub invariant-loop : goal.invariant-loop
invariant-loop l =
    record {
      goes : Stretches l.line l.initial.room l.room (ran_of l.p l.initial.s) (ran_of l.p l.s);
      lock : InLock (ran_of l.p l.s);
      ahead : Ahead l.line (l.p.pos + 66 * l.s.count) (4 - l.counter) l.f;
      count : l.s.count ≡ l.initial.s.count + l.counter;
    }
