-- `frame_reading::read_frame` meets its contract. Assumes nothing.
use Rattle.std.proofs.Common.{ap, ◌∙◌, arith}
use Rattle.frame_reading.specs.Reading.{with_three, with_word}
use Rattle.frame_reading.proofs.Turning.{fresh, in_first, in_turn, in_ended, in_done}
use Rattle.frame_reading.proofs.read_frame.Goals as goal

pub loop-j-init : goal.loop-j-init
loop-j-init c =
    in_first c.args.bytes.now c.args.k c.three-r.result c.requires.0 c.requires.2 (c.three-r.ensures.0 ∙ ap (with_three fresh) c.nth_word.ensures) (omega arith)

pub loop-j-preserved : goal.loop-j-preserved
loop-j-preserved c =
    in_turn c.args.bytes.now c.args.k c.loop-j.j c.loop-j.r c.word-r.result c.loop-j.invariant c.loop-j-test.true c.if-not-r.false
    (c.word-r.ensures.0 ∙ ap (with_word c.loop-j.r) c.nth_word-in-loop-j.ensures) c.word-r.ensures.1

pub returns-then-not-r : goal.returns-then-not-r
returns-then-not-r c = in_ended c.args.bytes.now c.args.k c.loop-j.j c.loop-j.r c.loop-j.invariant c.if-not-r.true

pub returns-then-not-r-2 : goal.returns-then-not-r-2
returns-then-not-r-2 c = in_done c.args.bytes.now c.args.k c.loop-j.j c.loop-j.r _ c.loop-j.invariant c.loop-j-test.false (rw c.if-not-r-2.true)

pub returns-else-not-r-2 : goal.returns-else-not-r-2
returns-else-not-r-2 c = in_done c.args.bytes.now c.args.k c.loop-j.j c.loop-j.r _ c.loop-j.invariant c.loop-j-test.false (rw c.if-not-r-2.false)
