-- By what the control bytes add up to.
use mathlib.Core.Path.{◌≡◌, sym, ◌∙◌}
use native.Mathlib.Omega.{arith}
use borrow.Author.Rules.{rules}
use Rattle.block.specs.declared.Edition.TheVariants.{New}
use Rattle.groups.proofs.Four.{idles_each, low_power_each}
use Rattle.groups.proofs.send_four.Goals as goal

pub returns-then-controls-eq0 : goal.returns-then-controls-eq0
returns-then-controls-eq0 c = c.send_data.ensures c.args.edition

pub returns-then-all_are : goal.returns-then-all_are
returns-then-all_are c =
    let a = c.args in
    let pre = c.requires in
    let full = sym c.controls_at-controls.ensures ∙ c.if-controls-eq120.true in
    let alike = idles_each a.bytes.now a.at (λ n. omega (arith, c.type_inv.bytes n)) pre.0 pre.4 pre.3 full a.edition (c.all_are.ensures c.if-all_are.true) in
    c.send_alike.ensures a.edition a.bytes.now a.at (rw c.idles.ensures alike)

pub returns-then-all_are-2 : goal.returns-then-all_are-2
returns-then-all_are-2 c =
    let a = c.args in
    let pre = c.requires in
    let full = sym c.controls_at-controls.ensures ∙ c.if-controls-eq120.true in
    let newer : a.edition ≡ New = search rules in
    let alike = low_power_each a.bytes.now a.at (λ n. omega (arith, c.type_inv.bytes n)) pre.0 pre.4 pre.3 full a.edition newer (c.all_are-then-eq.ensures c.if-all_are-2.true) in
    c.send_alike-then-all_are-2.ensures a.edition a.bytes.now a.at (rw c.low_power.ensures alike)
