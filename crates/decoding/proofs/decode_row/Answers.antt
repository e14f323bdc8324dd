-- `decoding::decode_row` meets its contract: good where both halves are read, else bad by their codes.
use mathlib.Core.Path.{◌∙◌, ap, ap₂}
use Rattle.block.specs.Block.{good}
use Rattle.characters.specs.Octets.{four_by}
use Rattle.decoding.specs.Halves.{both}
use Rattle.decoding.proofs.Looking.{low_four, high_four}
use Rattle.decoding.proofs.Rows.{row_valid, row_bad}
use Rattle.decoding.proofs.decode_row.Goals as goal

pub returns-in-Ok : goal.returns-in-Ok
returns-in-Ok c =
    let args = c.args in
    let pre = c.requires in
    let low = c.four-low.ensures ∙ low_four args.edition args.r pre.0 args.s pre.1 args.x four_by in
    let high = c.four-high.ensures ∙ high_four args.edition args.r pre.0 args.s pre.1 args.x four_by in
    row_valid args.edition args.r args.x pre.0 c.in-Ok.d0 c.in-Ok.d1 (c.in-Ok.ensures ∙ ap₂ both low high) _ _ _ pre.1.low pre.1.high
    (c.good_class.ensures ∙ ap good c.kind_of.ensures)

pub returns-in-Err : goal.returns-in-Err
returns-in-Err c =
    let args = c.args in
    let pre = c.requires in
    let low = c.four-low.ensures ∙ low_four args.edition args.r pre.0 args.s pre.1 args.x four_by in
    let high = c.four-high.ensures ∙ high_four args.edition args.r pre.0 args.s pre.1 args.x four_by in
    let w = row_bad args.edition args.r args.x pre.0 c.in-Err.why (c.in-Err.ensures ∙ ap₂ both low high) in
    (c.bad.ensures.0 ∙ w.0, c.bad.ensures.1 ∙ w.1)
