-- `frame_list::list_all` meets its contract. Assumes nothing.
use mathlib.Core.Path.{refl, ap}
use mathlib.Core.List.{List}
use lib.ListN.{length}
use native.Mathlib.Omega.{arith}
use Rattle.frames.specs.Frames.{Frame}
use Rattle.frames.proofs.Words.{left_all}
use Rattle.frame_list.proofs.Listing.{lists_none, lists_on, lists_all}
use Rattle.frame_list.proofs.list_all.Goals as goal

pub loop-r-init : goal.loop-r-init
loop-r-init c = (lists_none c.args.bytes.now c.args.list.now, refl)

pub between-r-requires : goal.between-r-requires
between-r-requires c =
    let args = c.args in
    let pre = c.requires in
    let loop = c.loop-r in
    let e = ap (λ (fs : List Frame). length fs) (left_all args.bytes.now) in
    (loop.invariant.0.within, pre.0, omega (arith, pre.1, loop.invariant.0.number, loop.invariant.1))

pub loop-r-smaller : goal.loop-r-smaller
loop-r-smaller c =
    let m = c.between-r.ensures.1 c.loop-r-test.true in
    omega (arith, c.between-r.ensures.0.within)

pub loop-r-preserved : goal.loop-r-preserved
loop-r-preserved c =
    let args = c.args in
    let loop = c.loop-r in
    let between = c.between-r in
    (lists_on args.bytes.now 0 0 args.list.now loop.r loop.list between.result between.new.list loop.invariant.0 between.ensures.0, omega (arith, between.auto.list, loop.invariant.1))

pub shape_of-list : goal.shape_of-list
shape_of-list c = c.loop-r.invariant.1

pub returns : goal.returns
returns c =
    let args = c.args in
    let loop = c.loop-r in
    lists_all args.bytes.now args.list.now loop.list loop.r loop.invariant.0 c.loop-r-test.false
