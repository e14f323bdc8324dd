-- `display::line_records` meets its contract. Assumes nothing.
use Rattle.std.proofs.Common.{ℕ, ◌≡◌, ◌+◌, ◌≤◌, min, length}
use mathlib.Core.Path.{ap, ◌∙◌}
use native.Mathlib.Omega.{arith}
use Rattle.std.specs.Slice.Iter.{chunks_rest, chunks_size}
use Rattle.record_writing.specs.Writing.{record_of}
use Rattle.display.specs.Display.{line_records}
use Rattle.display.proofs.Laws.{record_length, records_none, records_part}
use Rattle.display.proofs.Loops.{begun, piece_fits, goes_on, all_written}
use Rattle.display.proofs.line_records.Goals as goal

pub loop-part-init : goal.loop-part-init
loop-part-init c =
    let e = c.into_iter-part-iterator.ensures.into_iter_gives in
    let items = c.chunks-part-items in
    (ap chunks_size e ∙ items.ensures.size, begun _ _ _ _ (ap (line_records 4092) (ap chunks_rest e ∙ items.ensures.rest)))

pub line_record-e-requires : goal.line_record-e-requires
line_record-e-requires c =
    let s = c.in-Some.ensures.steps in
    let l : length c.in-Some.part.now ≡ min 4092 (length (chunks_rest c.loop-part.part-iterator)) =
    s.1.1 ∙ ap (λ (n : ℕ). min n (length (chunks_rest c.loop-part.part-iterator))) c.loop-part.invariant.0 in
    let f : c.loop-part.e + length (record_of 2 c.in-Some.part.now) ≤ length c.loop-part.out =
    piece_fits (line_records 4092 c.args.line.now) c.args.out.now _ c.args.at _ _ (record_of 2 c.in-Some.part.now)
    (line_records 4092 (chunks_rest c.next.new.self)) c.requires
    (records_part _ _ _ s.1.0 l s.1.2) c.loop-part.invariant.1 in
    (omega (arith, l), omega (arith, record_length c.in-Some.part.now))

pub loop-part-preserved : goal.loop-part-preserved
loop-part-preserved c =
    let s = c.in-Some.ensures.steps in
    let l : length c.in-Some.part.now ≡ min 4092 (length (chunks_rest c.loop-part.part-iterator)) =
    s.1.1 ∙ ap (λ (n : ℕ). min n (length (chunks_rest c.loop-part.part-iterator))) c.loop-part.invariant.0 in (
      s.0 ∙ c.loop-part.invariant.0,
      goes_on (line_records 4092 c.args.line.now) c.args.out.now _ c.args.at _ _ _ _ c.requires
          (records_part _ _ _ s.1.0 l s.1.2) c.loop-part.invariant.1 _ _ c.line_record-e.ensures,
    )

pub returns : goal.returns
returns c = all_written _ _ _ _ _ _ (records_none _ c.in-None.ensures.steps.1.0) c.loop-part.invariant.1
