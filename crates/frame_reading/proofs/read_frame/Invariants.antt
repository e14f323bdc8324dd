-- `frame_reading::read_frame` meets its contract. Assumes nothing.
use Rattle.frame_reading.proofs.Turning.{InFrame}
use Rattle.frame_reading.proofs.read_frame.Given as goal

abbrev pub invariant-loop-j : goal.invariant-loop-j
invariant-loop-j l = InFrame l.bytes l.k l.r l.j
