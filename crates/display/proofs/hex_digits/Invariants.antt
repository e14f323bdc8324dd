-- The loop of `display::hex_digits` keeps what is written so far. Assumes nothing.
use Rattle.display.proofs.Loops.{Digits}
use Rattle.display.proofs.hex_digits.Given as goal

abbrev pub invariant-loop-b : goal.invariant-loop-b
invariant-loop-b l = Digits l.v l.initial.out l.at l.out l.e l.b-index
