-- `quick_encoding::quick_other` meets its contract.
use mathlib.Core.Path.{◌∙◌}
use native.Mathlib.Omega.{arith}
use Rattle.quick_encoding.proofs.Looking.{start_first_coded, start_second_coded, two_sets_coded, none_coded}
use Rattle.quick_encoding.proofs.quick_other.Goals as goal

pub returns-in-1 : goal.returns-in-1
returns-in-1 c ed =
    let args = c.args in
    let pre = c.requires in
    c.control_block.ensures ∙ start_first_coded ed args.c0 args.c1 args.lanes pre.0 pre.1 (omega arith) (omega arith) c.if-lanes-eq251.true

pub returns-in-17 : goal.returns-in-17
returns-in-17 c ed =
    let args = c.args in
    let pre = c.requires in
    c.control_block-in-17.ensures
    ∙ two_sets_coded ed args.c0 args.c1 args.lanes pre.0 pre.1 (omega arith) (omega arith) c.if-lanes-eq156.true c.if-lanes-eq156-2.true

pub returns-in-31 : goal.returns-in-31
returns-in-31 c ed =
    let args = c.args in
    let pre = c.requires in
    c.control_block-in-31.ensures
    ∙ start_second_coded ed args.c0 args.c1 args.lanes pre.0 pre.1 (omega arith) (omega arith) c.if-lanes-eq1078154692359.true

pub returns-in_default : goal.returns-in_default
returns-in_default c ed =
    let args = c.args in
    let pre = c.requires in
    c.control_block-in_default.ensures
    ∙ none_coded ed args.c0 args.c1 args.lanes pre.0 pre.1 (omega arith) pre.2 pre.3 ((((tt, λ e. omega arith), λ e. omega arith), λ e. omega arith), λ e. omega arith)
