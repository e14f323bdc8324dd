-- The loop of `input::gathered` keeps what was gathered so far, and how many reads that took. Assumes nothing.
use Rattle.std.proofs.Common.{◌≡◌, length}
use Rattle.input.proofs.Turns.{SoFar}
use Rattle.input.proofs.gathered.Given as goal

abbrev pub invariant-loop : goal.invariant-loop
invariant-loop g l = (length l.window ≡ 65476) × SoFar l.kind l.initial.store l.store l.used l.counter
