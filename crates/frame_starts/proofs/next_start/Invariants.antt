-- `frame_starts::next_start` meets its contract. Assumes nothing.
use Rattle.std.proofs.Common.{◌≡◌}
use Rattle.frames.specs.Words.{quiet_before, frames_left}
use Rattle.frame_starts.proofs.next_start.Given as goal

abbrev pub invariant-loop-j : goal.invariant-loop-j
invariant-loop-j l = record { before : l.before ≡ quiet_before l.bytes l.j; rest : frames_left l.bytes l.k ≡ frames_left l.bytes l.j }
