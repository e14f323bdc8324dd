-- `encoding::encode_rows` meets its contract: the rows with the control bits of the vector are tried in turn.
use mathlib.Core.Path.{◌∙◌, ap₂, subst}
use Prim.Native.Nat.{ℕ, ◌+◌, ◌*◌, ◌<◌}
use native.Mathlib.Omega.{arith}
use Rattle.std.specs.Prelude.{Option, IfSome}
use Rattle.std.specs.Option.{unwrap_or}
use Rattle.fields.specs.Parts.{spread, first_by}
use Rattle.fields.proofs.Choosing.{Trying, first_try, next_try, tried, not_tried}
use Rattle.encoding.proofs.encode_rows.Goals as goal

pub loop-next-init : goal.loop-next-init
loop-next-init c = (
  first_try c.args.edition (spread c.args.c0 c.args.c1 c.args.lanes) (omega arith) (omega arith) _
      (c.first_row-next.ensures.row ∙ ap₂ (λ (m n : ℕ). first_by (m + 16 * n)) c.from.ensures c.from-2.ensures),
  c.first_row-next.ensures.inside,
)

pub returns-in-Some-pack : goal.returns-in-Some-pack
returns-in-Some-pack c =
    let v = spread c.args.c0 c.args.c1 c.args.lanes in
    let w = subst (λ (n : Option ℕ). Trying c.args.edition v (unwrap_or n 16) × IfSome n (λ r. r < 16)) c.in-Some.is c.loop-next.invariant in
    tried c.args.edition v c.in-Some.r _ _ w.1 w.0 c.requires.2 c.kind_of.ensures c.in-Some-pack.ensures

pub loop-next-preserved : goal.loop-next-preserved
loop-next-preserved c =
    let v = spread c.args.c0 c.args.c1 c.args.lanes in
    let w = subst (λ (n : Option ℕ). Trying c.args.edition v (unwrap_or n 16) × IfSome n (λ r. r < 16)) c.in-Some.is c.loop-next.invariant in (
      next_try c.args.edition v (omega arith) (omega arith) c.in-Some.r _ w.1 w.0 (not_tried c.args.edition v c.in-Some.r c.in_default-pack.ensures) c.next_row-next.ensures.row,
      c.next_row-next.ensures.inside,
    )
