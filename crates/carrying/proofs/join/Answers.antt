-- `carrying::join` meets its contract. The line bits go to header and payload, or to the payload alone. Assumes nothing.
use native.Mathlib.Omega.{arith}
use Rattle.carrying.proofs.Joining.{header_fits, join_header, join_payload}
use Rattle.carrying.proofs.join.Goals as goal

pub overflow_add-result : goal.overflow_add-result
overflow_add-result c =
    let args = c.args in
    let more = c.bits_from-more in
    record { fits = header_fits args.line.now args.pos args.c c.requires.2 more.result more.ensures c.if-c-lt2.true }

pub returns-then-c-lt2 : goal.returns-then-c-lt2
returns-then-c-lt2 c =
    let args = c.args in
    let more = c.bits_from-more in
    (omega arith, join_header args.line.now args.pos args.c c.requires.2 more.result more.ensures c.bits_from.result c.if-c-lt2.true c.bits_from.ensures)

pub overflow_add-result-2 : goal.overflow_add-result-2
overflow_add-result-2 c =
    let args = c.args in
    let more = c.bits_from-more in
    record { fits = (join_payload args.line.now args.pos args.c c.requires.2 more.result more.ensures (omega arith)).0 }

pub returns : goal.returns
returns c =
    let args = c.args in
    let more = c.bits_from-more in
    (c.requires.2.header, (join_payload args.line.now args.pos args.c c.requires.2 more.result more.ensures (omega arith)).1)
