-- `frame_starts::count` meets its contract. Assumes nothing.
use Rattle.std.proofs.Common.{◌≡◌, ◌+◌, ◌≤◌, length}
use Rattle.frames.specs.Words.{quiet_before, frames_left}
use Rattle.frame_starts.proofs.count.Given as goal

abbrev pub invariant-loop-k : goal.invariant-loop-k
invariant-loop-k l = record {
  before : l.before ≡ quiet_before l.bytes l.k;
  number : l.n + length (frames_left l.bytes l.k) ≡ length (frames_left l.bytes 0);
  few : l.n ≤ l.k;
}
