-- `reception::receive_more` meets its contract. The loop's invariant: what comes of the receiver, its room and its counts from here is what comes of them from the start. Assumes nothing.
use native.Mathlib.Omega.{arith}
use mathlib.Core.Path.{sym, subst}
use Rattle.receiving.specs.declared.Progress.{Progress}
use Rattle.reception.proofs.Defaults.{begun_default}
use Rattle.reception.proofs.Looping.{Looping, loop_first, loop_next, loop_stretch, loop_ends}
use Rattle.reception.proofs.receive_more.Goals as goal

pub loop-p-init : goal.loop-p-init
loop-p-init c =
    let args = c.args in
    let pre = c.requires in
    subst (λ (p : Progress). Looping args.line.now args.room.now args.room.now p p)
    (sym (begun_default args.start c.default.result c.default-2.result c.default.ensures c.default-2.ensures))
    (loop_first args.line.now args.room.now args.start pre.1 pre.2 pre.3)

pub stretch-p-requires : goal.stretch-p-requires
stretch-p-requires c = (c.requires.0, c.loop-p.invariant.under, omega (arith, c.loop-p-test.true))

pub hunt-p-requires : goal.hunt-p-requires
hunt-p-requires c = (c.requires.0, c.stretch-p.ensures.under, c.stretch-p.ensures.ends)

pub turn-p-requires : goal.turn-p-requires
turn-p-requires c = (c.requires.0, c.hunt-p.ensures.under, c.hunt-p.ensures.ends)

pub loop-p-smaller : goal.loop-p-smaller
loop-p-smaller c =
    let stretch = c.stretch-p in
    let hunt = c.hunt-p in
    let turn = c.turn-p in
    omega (arith, stretch.ensures.past, hunt.ensures.past, hunt.ensures.ends, turn.ensures.past)

pub loop-p-preserved : goal.loop-p-preserved
loop-p-preserved c =
    let args = c.args in
    let loop = c.loop-p in
    let stretch = c.stretch-p in
    let hunt = c.hunt-p in
    let turn = c.turn-p in
    let line = args.line.now in
    let room = args.room.now in
    loop_next line room hunt.new.room turn.new.room _ hunt.result turn.result
    (loop_stretch line room stretch.new.room hunt.new.room _ stretch.result hunt.result
    (loop_stretch line room loop.room stretch.new.room _ loop.p stretch.result loop.invariant stretch.ensures) hunt.ensures)
    turn.ensures

pub shape_of-room : goal.shape_of-room
shape_of-room c = c.loop-p.invariant.len

pub returns : goal.returns
returns c =
    let args = c.args in
    let loop-here = c.loop-p in
    loop_ends args.line.now args.room.now loop-here.room args.start loop-here.p
    (subst (λ (p : Progress). Looping args.line.now args.room.now loop-here.room p loop-here.p)
    (begun_default args.start c.default.result c.default-2.result c.default.ensures c.default-2.ensures) loop-here.invariant)
    (omega (arith, c.loop-p-test.false))
