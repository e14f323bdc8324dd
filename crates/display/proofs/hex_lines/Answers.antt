-- `display::hex_lines` meets its contract. Assumes nothing.
use Rattle.std.proofs.Common.{◌≡◌, ◌+◌, ◌≤◌, length}
use mathlib.Core.Path.{ap, ◌∙◌}
use native.Mathlib.Omega.{arith}
use Rattle.std.specs.Slice.Iter.{chunks_exact_rest, chunks_exact_size}
use Rattle.display.specs.Display.{hex_line, hex_lines}
use Rattle.display.proofs.Laws.{hex_line_length, lines_length, lines_none, lines_part}
use Rattle.display.proofs.Loops.{begun, piece_fits, goes_on, all_written}
use Rattle.display.proofs.hex_lines.Goals as goal

pub loop-vector-init : goal.loop-vector-init
loop-vector-init c =
    let e = c.into_iter-vector-iterator.ensures.into_iter_gives in
    let items = c.chunks_exact-vector-items in
    (ap chunks_exact_size e ∙ items.ensures.size, begun _ _ _ _ (ap hex_lines (ap chunks_exact_rest e ∙ items.ensures.rest)))

pub hex_line-e-requires : goal.hex_line-e-requires
hex_line-e-requires c =
    let s = c.in-Some.ensures.steps in
    let l : length c.in-Some.vector.now ≡ 10 = s.1.1 ∙ c.loop-vector.invariant.0 in
    let f : c.loop-vector.e + length (hex_line c.in-Some.vector.now) ≤ length c.loop-vector.out =
    piece_fits (hex_lines c.args.vectors.now) c.args.out.now _ c.args.at _ _ _ _ (omega (arith, lines_length c.args.vectors.now))
    (lines_part _ _ _ s.1.0 l) c.loop-vector.invariant.1 in
    omega (arith, hex_line_length c.in-Some.vector.now l)

pub loop-vector-preserved : goal.loop-vector-preserved
loop-vector-preserved c =
    let s = c.in-Some.ensures.steps in
    let l : length c.in-Some.vector.now ≡ 10 = s.1.1 ∙ c.loop-vector.invariant.0 in (
      s.0 ∙ c.loop-vector.invariant.0,
      goes_on (hex_lines c.args.vectors.now) c.args.out.now _ c.args.at _ _ _ _ (omega (arith, lines_length c.args.vectors.now))
          (lines_part _ _ _ s.1.0 l) c.loop-vector.invariant.1 _ _ c.hex_line-e.ensures,
    )

pub returns : goal.returns
returns c =
    let s = c.in-None.ensures.steps in
    all_written _ _ _ _ _ _ (lines_none _ (omega (arith, s.1.0, c.loop-vector.invariant.0))) c.loop-vector.invariant.1
