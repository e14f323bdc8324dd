use native.Mathlib.Omega.{arith}
use Rattle.hunting.specs.Unlocked.{after_search}
use Rattle.receiving.proofs.Stretching.{stretch_first, stretch_more, stretch_turn}
use Rattle.hunting.proofs.hunt_blocks.Goals as goal

pub loop-p-init : goal.loop-p-init
loop-p-init c = stretch_first c.args.line.now c.args.room.now (after_search c.args.p c.args.start) c.requires.2 c.requires.3

pub hunts_on-requires : goal.hunts_on-requires
hunts_on-requires c = (c.requires.0, c.loop-p.invariant.under.range.history)

pub hunt_step-s-requires : goal.hunt_step-s-requires
hunt_step-s-requires c = let h = c.hunts_on.ensures c.loop-p-test.true in (c.requires.0, c.requires.1, c.loop-p.invariant.under, h.0, h.1, h.2)

pub loop-p-smaller : goal.loop-p-smaller
loop-p-smaller c = omega (arith, c.hunt_step-s.ensures.0.past, c.loop-p.invariant.ends)

pub loop-p-preserved : goal.loop-p-preserved
loop-p-preserved c =
    let args = c.args in
    let loop = c.loop-p in
    let hunt-step = c.hunt_step-s in
    let line = args.line.now in
    let p = args.p in
    stretch_more line args.room.now loop.room hunt-step.new.room (after_search p args.start) (after_search p loop.s) (after_search p hunt-step.result) loop.invariant
    (stretch_turn line loop.room hunt-step.new.room (after_search p loop.s) (after_search p hunt-step.result) hunt-step.ensures.0 hunt-step.ensures.1)

pub shape_of-room : goal.shape_of-room
shape_of-room c = c.loop-p.invariant.len

pub returns : goal.returns
returns c = c.loop-p.invariant
