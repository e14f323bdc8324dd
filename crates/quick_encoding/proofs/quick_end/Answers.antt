-- `quick_encoding::quick_end` meets its contract.
use mathlib.Core.Path.{◌∙◌}
use native.Mathlib.Omega.{arith}
use Rattle.quick_encoding.proofs.Looking.{end_le, end_coded, idle_known, none_before}
use Rattle.quick_encoding.proofs.quick_end.Goals as goal

pub overflow_sub-lanes : goal.overflow_sub-lanes
overflow_sub-lanes c = end_le c.args.k c.requires.0 c.args.lanes c.if-lanes-k.true

pub returns-then-lanes-k : goal.returns-then-lanes-k
returns-then-lanes-k c ed =
    let args = c.args in
    let pre = c.requires in
    c.control_block.ensures ∙ end_coded ed args.k pre.0 args.c0 args.c1 args.lanes pre.1 pre.2 (omega arith) pre.3 c.if-lanes-k.true

pub returns-then-lanes-eq506381209866536711 : goal.returns-then-lanes-eq506381209866536711
returns-then-lanes-eq506381209866536711 c ed =
    let args = c.args in
    let pre = c.requires in
    c.control_block-then-lanes-eq506381209866536711.ensures
    ∙ idle_known ed args.c0 args.c1 args.lanes (omega arith) pre.1 pre.2 (none_before _ args.k c.if-k-eq0.true pre.3) c.if-lanes-eq506381209866536711.true
