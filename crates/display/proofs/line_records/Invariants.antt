-- The loop of `display::line_records` keeps what is written so far and what is left. Assumes nothing.
use Rattle.std.proofs.Common.{◌≡◌}
use Rattle.std.specs.Slice.Iter.{chunks_rest, chunks_size}
use Rattle.display.specs.Display.{line_records}
use Rattle.display.proofs.Loops.{Begun}
use Rattle.display.proofs.line_records.Given as goal

abbrev pub invariant-loop-part : goal.invariant-loop-part
invariant-loop-part l =
    (chunks_size l.part-iterator ≡ 4092)
    × Begun (line_records 4092 l.fn.line) l.at l.initial.out l.out l.e (line_records 4092 (chunks_rest l.part-iterator))
