-- `decoding::decode_control` meets its contract: bad by its type, low power idle, or the row of its type.
use mathlib.Core.Path.{◌≡◌, refl, ◌∙◌}
use Rattle.std.proofs.Common.{rules}
use Rattle.block.specs.declared.Edition.TheVariants.{New}
use Rattle.decoding.proofs.Looking.{no_row, row_is, shape_is}
use Rattle.decoding.proofs.Rows.{low_answer, no_type}
use Rattle.shapes.proofs.Rows.{row_answer}
use Rattle.decoding.proofs.decode_control.Goals as goal

pub returns-then-r-eq0 : goal.returns-then-r-eq0
returns-then-r-eq0 c =
    let w = no_type c.args.edition 1 c.args.payload _ refl refl (no_row c.args.payload _ c.type_row-r.ensures c.if-r-eq0.true) in
    (c.bad.ensures.0 ∙ w.0, c.bad.ensures.1 ∙ w.1)

pub returns-then-eq : goal.returns-then-eq
returns-then-eq c =
    let new : c.args.edition ≡ New = search rules in
    low_answer c.args.edition 1 c.args.payload new refl c.if-payload-eq871499720017774110.true

pub decode_row-requires : goal.decode_row-requires
decode_row-requires c =
    let args = c.args in
    let type_row = c.type_row-r in
    let if1 = c.if-r-eq0 in
    ((row_is args.payload _ type_row.ensures if1.false).1, shape_is args.payload _ type_row.ensures _ if1.false c.shape_of-s.ensures.1)

pub returns : goal.returns
returns c =
    let q = row_is c.args.payload _ c.type_row-r.ensures c.if-r-eq0.false in
    row_answer c.args.edition 1 c.args.payload _ _ _ refl q.0 q.1 c.decode_row.ensures
