-- `turning::turn` meets its contract. A block that is full is tested, and the block held is answered; bits wait, or one is skipped. Assumes nothing.
use native.Mathlib.Omega.{arith}
use Rattle.receiving.proofs.Counted.{within_wide, handed_wide}
use Rattle.receiving.proofs.Turning.{held_fits, turn_block, turn_wait}
use Rattle.turning.proofs.turn.Goals as goal

pub settle_held-settled-requires : goal.settle_held-settled-requires
settle_held-settled-requires c =
    let args = c.args in
    let pre = c.requires in
    let taken = c.take_at-taken in
    let tested = c.test_block-tested in (
      rw c.lets_end.ensures
          (held_fits args.line.now args.room.now args.p pre.1 taken.result taken.ensures c.in-Some.block c.in-Some.is tested.result.link tested.result.held tested.ensures.0 tested.ensures.1),
      handed_wide args.p.handed args.p.pos 6600000 pre.1.handed (omega (arith, pre.0, pre.2)),
    )

pub count_block-requires : goal.count_block-requires
count_block-requires c =
    let p = c.args.p in
    within_wide p.counts p.pos 6600000 c.requires.1.counts (omega (arith, c.requires.0, c.requires.2))

pub returns-in-Some : goal.returns-in-Some
returns-in-Some c =
    let args = c.args in
    let taken = c.take_at-taken in
    let tested = c.test_block-tested in
    let settled = c.settle_held-settled in
    let e = rw c.lets_end.ensures at settled.ensures in
    turn_block args.line.now args.room.now args.p c.requires.1 taken.result taken.ensures c.in-Some.block c.in-Some.is
    tested.result.link tested.result.held tested.ensures.0 tested.ensures.1
    settled.result.state settled.result.at c.count_block.result settled.new.room e.0 e.1 e.2 settled.result.handed e.3
    c.count_block.ensures

pub returns-in-None : goal.returns-in-None
returns-in-None c =
    let args = c.args in
    turn_wait args.line.now args.room.now args.p c.requires.1 c.requires.2 c.take_at-taken.result c.take_at-taken.ensures c.in-None.is
