-- `encoding::pack` meets its contract: the fields are filled one after the other.
use mathlib.Core.Path.{◌∙◌, ap, sym, subst}
use Prim.Native.Nat.{ℕ, ◌+◌, ◌*◌, ◌^◌, ◌<◌}
use native.Mathlib.Omega.{arith}
use Rattle.block.specs.Block.{sent_code}
use Rattle.fields.specs.Parts.{spread, field_in, place_of_field}
use Rattle.fields.proofs.Fields.{sent_code_lem}
use Rattle.fields.proofs.Packing.{Filled, filled_lt, room, filled_more, not_filled, some_code, no_code}
use Rattle.encoding.proofs.pack.Goals as goal

pub returns-in_err-code : goal.returns-in_err-code
returns-in_err-code c =
    let args = c.args in
    let loop = c.loop-i in
    let s = sent_code_lem args.r loop.i c.requires.0 c.loop-i-test.true args.edition args.c0 args.c1 args.lanes c.requires.1 in
    c.from_residual.ensures ∙ not_filled args.edition args.r (spread args.c0 args.c1 args.lanes) c.requires.0 loop.i c.loop-i-test.true (omega (arith, s, no_code _ c.in_err-code.ensures))

pub placed-payload-requires : goal.placed-payload-requires
placed-payload-requires c =
    let args = c.args in
    let pre = c.requires in
    let loop = c.loop-i in
    let s = sent_code_lem args.r loop.i pre.0 c.loop-i-test.true args.edition args.c0 args.c1 args.lanes pre.1 in
    let k = some_code _ _ c.in_ok-code.ensures in
    let h : sent_code args.edition (spread args.c0 args.c1 args.lanes) (field_in args.r loop.i) < 256 = omega (arith, s, k.1) in
    (pre.0, c.loop-i-test.true, subst (λ (n : ℕ). n < 2 ^ (field_in args.r loop.i).bits) (s ∙ sym k.0) (room args.edition args.r (spread args.c0 args.c1 args.lanes) pre.0 loop.i c.loop-i-test.true h))

-- one field more
again : (c : goal.After-placed-payload) → Filled c.args.edition c.args.r (spread c.args.c0 c.args.c1 c.args.lanes) (c.loop-i.i + 1) (c.loop-i.payload + c.placed-payload.result)
again c =
    let args = c.args in
    let pre = c.requires in
    let loop = c.loop-i in
    let v = spread args.c0 args.c1 args.lanes in
    let s = sent_code_lem args.r loop.i pre.0 c.loop-i-test.true args.edition args.c0 args.c1 args.lanes pre.1 in
    let k = some_code _ _ c.in_ok-code.ensures in
    let h : sent_code args.edition v (field_in args.r loop.i) < 256 = omega (arith, s, k.1) in
    subst (λ (n : ℕ). Filled args.edition args.r v (loop.i + 1) (loop.payload + n))
    (sym (c.placed-payload.ensures ∙ ap (λ (n : ℕ). 2 ^ place_of_field args.r loop.i * n) (k.0 ∙ sym s)))
    (filled_more args.edition args.r v pre.0 loop.i c.loop-i-test.true loop.payload loop.invariant h)

pub overflow_add-payload : goal.overflow_add-payload
overflow_add-payload c = record { fits = filled_lt c.args.edition c.args.r (spread c.args.c0 c.args.c1 c.args.lanes) c.requires.0 _ _ (again c) }

pub loop-i-preserved : goal.loop-i-preserved
loop-i-preserved c = again c
