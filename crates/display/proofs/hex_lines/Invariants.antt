-- The loop of `display::hex_lines` keeps what is written so far and what is left. Assumes nothing.
use Rattle.std.proofs.Common.{◌≡◌}
use Rattle.std.specs.Slice.Iter.{chunks_exact_rest, chunks_exact_size}
use Rattle.display.specs.Display.{hex_lines}
use Rattle.display.proofs.Loops.{Begun}
use Rattle.display.proofs.hex_lines.Given as goal

abbrev pub invariant-loop-vector : goal.invariant-loop-vector
invariant-loop-vector l =
    (chunks_exact_size l.vector-iterator ≡ 10)
    × Begun (hex_lines l.fn.vectors) l.at l.initial.out l.out l.e (hex_lines (chunks_exact_rest l.vector-iterator))
