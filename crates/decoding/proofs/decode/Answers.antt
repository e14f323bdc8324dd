-- `decoding::decode` meets its contract: at once, or data, or a control block, or bad by its header.
use mathlib.Core.Path.{◌∙◌}
use Rattle.decoding.proofs.Rows.{data_answer, of_control, no_header}
use Rattle.decoding.proofs.decode.Goals as goal

pub returns-then-header-eq2 : goal.returns-then-header-eq2
returns-then-header-eq2 c = data_answer c.args.edition c.args.header c.args.payload c.if-header-eq2.true

pub returns-then-header-eq1 : goal.returns-then-header-eq1
returns-then-header-eq1 c = of_control c.args.edition c.args.header c.args.payload _ _ c.if-header-eq1.true c.decode_control.ensures

pub returns : goal.returns
returns c =
    let w = no_header c.args.edition c.args.header c.args.payload c.if-header-eq2.false c.if-header-eq1.false in
    (c.bad.ensures.0 ∙ w.0, c.bad.ensures.1 ∙ w.1)
