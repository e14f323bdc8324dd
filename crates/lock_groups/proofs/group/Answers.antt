use native.Mathlib.Omega.{arith}
use mathlib.Core.Path.{refl}
use mathlib.Core.Logic.{inl, inr}
use Rattle.receiving.proofs.Stretching.{stretch_turn}
use Rattle.lock_steps.specs.InLock.{ran_of}
use Rattle.lock_groups.proofs.group.Goals as goal

pub four-requires : goal.four-requires
four-requires c =
    let pre = c.requires in
    let if1 = c.if-f-eq170 in
    let goes-to = c.goes_to in
    let if2 = c.if-goes_to in
    (pre.0, pre.1, pre.2, omega (arith, if1.true), goes-to.ensures if2.true, inl refl)

pub returns-then-goes_to : goal.returns-then-goes_to
returns-then-goes_to c =
    let args = c.args in
    let pre = c.requires in
    let step = c.four in
    let four = step.ensures in (
      stretch_turn args.line.now args.room.now step.new.room (ran_of args.p args.s) (ran_of args.p step.result) four.turns
          (omega (arith, four.pos, pre.1.here)),
      four.lock,
    )

pub four-requires-then-all_idle : goal.four-requires-then-all_idle
four-requires-then-all_idle c =
    let pre = c.requires in
    let if3 = c.if-f-eq85 in
    let goes-to = c.goes_to-then-f-eq85 in
    let if4 = c.if-goes_to-2 in
    let all-idle = c.all_idle in
    let if5 = c.if-all_idle in
    (pre.0, pre.1, pre.2, omega (arith, if3.true), goes-to.ensures if4.true, inr (refl, all-idle.ensures if5.true))

pub returns-then-all_idle : goal.returns-then-all_idle
returns-then-all_idle c =
    let args = c.args in
    let pre = c.requires in
    let step = c.four-then-all_idle in
    let four = step.ensures in (
      stretch_turn args.line.now args.room.now step.new.room (ran_of args.p args.s) (ran_of args.p step.result) four.turns
          (omega (arith, four.pos, pre.1.here)),
      four.lock,
    )
