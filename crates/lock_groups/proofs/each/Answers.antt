use native.Mathlib.Omega.{arith}
use mathlib.Core.Path.{◌≡◌, subst₂}
use Prim.Native.Nat.{ℕ, ◌+◌, ◌-◌, ◌*◌}
use Rattle.receiving.proofs.Stretching.{stretch_first, stretch_more}
use Rattle.lock_steps.specs.InLock.{ran_of}
use Rattle.lock_groups.specs.FourInLock.{Ahead}
use Rattle.lock_groups.proofs.FourInLock.{ahead_four, ahead_rest}
use Rattle.lock_groups.proofs.each.Goals as goal

pub loop-init : goal.loop-init
loop-init c =
    record {
      goes = stretch_first c.args.line.now c.args.room.now (ran_of c.args.p c.args.start) c.requires.1.under (omega (arith, c.requires.1.here));
      lock = c.requires.1.lock;
      ahead = ahead_four c.args.line.now (c.args.p.pos + 66 * c.args.start.count) c.args.four c.requires.2;
      count = omega arith;
    }

pub single-s-requires : goal.single-s-requires
single-s-requires c =
    let loop = c.loop in
    let now = loop.invariant in
    let h = now.ahead.a (omega arith) in (
      c.requires.0,
      record { under = now.goes.under; lock = now.lock; here = omega (arith, now.count, c.requires.1.here); more = omega (arith, now.count, c.requires.1.more) },
      h.0,
      h.1,
    )

-- a stretch, and then this block's
pub loop-preserved : goal.loop-preserved
loop-preserved c =
    let args = c.args in
    let loop = c.loop in
    let now = loop.invariant in
    let single = c.single-s in
    let rest = c.rest-f in
    let one : single.result.count ≡ loop.s.count + 1 = single.ensures.2 (omega (arith, single.ensures.0.past, c.if-s-before.false)) in
    let e : args.p.pos + 66 * loop.s.count + 66 ≡ args.p.pos + 66 * single.result.count = omega (arith, one) in
    let m : 4 - loop.counter - 1 ≡ 4 - (loop.counter + 1) = omega arith in
    record {
      goes = stretch_more args.line.now args.room.now loop.room single.new.room (ran_of args.p args.start) (ran_of args.p loop.s) (ran_of args.p single.result) now.goes single.ensures.0;
      lock = single.ensures.1;
      ahead =
          subst₂ (λ (pos n : ℕ). Ahead args.line.now pos n rest.result) e m
          (ahead_rest args.line.now (args.p.pos + 66 * loop.s.count) (4 - loop.counter) loop.f rest.result now.ahead rest.ensures.0 rest.ensures.1 rest.ensures.2 rest.ensures.3 (omega arith));
      count = omega (arith, one, now.count);
    }

pub returns-then-s-before : goal.returns-then-s-before
returns-then-s-before c =
    let args = c.args in
    let loop = c.loop in
    let single = c.single-s in (
      stretch_more args.line.now args.room.now loop.room single.new.room (ran_of args.p args.start) (ran_of args.p loop.s) (ran_of args.p single.result) loop.invariant.goes single.ensures.0,
      single.ensures.1,
    )

pub returns-after-loop : goal.returns-after-loop
returns-after-loop c = (c.loop.invariant.goes, c.loop.invariant.lock)
