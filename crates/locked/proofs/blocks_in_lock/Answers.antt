use native.Mathlib.Omega.{arith}
use mathlib.Core.Path.{sym, subst, subst₂}
use mathlib.Core.List.{List}
use Prim.Native.Nat.{ℕ}
use Rattle.receiving.specs.Loop.{Stretches}
use Rattle.receiving.proofs.Stretching.{stretch_more}
use Rattle.lock_steps.specs.InLock.{ran_of}
use Rattle.lock_steps.specs.declared.Run.{Run}
use Rattle.locked.proofs.blocks_in_lock.Goals as goal
use Rattle.locked.proofs.blocks_in_lock.Goals.{else-loop-i-test, then-loop-i-test+then-s-before}

pub loop-i-preserved : goal.loop-i-preserved
loop-i-preserved c =
    let args = c.args in
    let loop = c.loop-i in
    let group = c.group-s in
    record {
      goes = stretch_more args.line.now args.room.now loop.room group.new.room args.p (ran_of args.p loop.s) (ran_of args.p group.result) loop.invariant.goes group.ensures.0;
      lock = group.ensures.1;
      count = omega (arith, loop.invariant.count, c.if-s-before.false);
    }

pub returns : goal.returns
returns c =
    let args = c.args in
    let loop = c.loop-i in
    let end = c.loop-i-test in
    let ends : List ℕ → Run → Type 0 = λ room s. Stretches args.line.now args.room.now room args.p (ran_of args.p s) in
    subst (Stretches args.line.now args.room.now end.room args.p) (sym c.ran.ensures)
    (elim end.branch [
      | else-loop-i-test w ↦ subst₂ ends (sym w.room-is) (sym w.s-is) loop.invariant.goes
      | then-loop-i-test+then-s-before w ↦
          subst₂ ends (sym w.room-is) (sym w.s-is)
          (stretch_more args.line.now args.room.now loop.room w.group-s.new.room args.p (ran_of args.p loop.s) (ran_of args.p w.group-s.result) loop.invariant.goes w.group-s.ensures.0)
    ])
