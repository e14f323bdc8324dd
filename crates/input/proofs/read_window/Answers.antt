-- The window of `input::read_window` is what the reader gave. Assumes nothing.
use native.Mathlib.Omega.{arith}
use lib.Seq.{length-take-le}
use Rattle.input.proofs.Filled.{window_given}
use Rattle.input.proofs.read_window.Goals as goal

pub returns-clause-bytes : goal.returns-clause-bytes
returns-clause-bytes g c =
    let four = length-take-le 4 c.args.window.now (omega arith) in
    let read = c.in_ok-head.ensures.within in
    window_given _ _ _ _ _ _ _ _ _ _ (omega (arith, four, read, c.if-head-lt4.false)) (omega (arith, four, read, c.if-head-lt4.false))
    (omega (arith, c.in_ok-body.ensures.within)) c.in_ok-head.ensures.bytes c.in_ok-body.ensures.bytes
