use mathlib.Core.Path.{◌≡◌, sym, ap₂, ◌∙◌}
use Prim.Native.Nat.{ℕ, ◌*◌, ◌%◌}
use lib.ListN.{get_or}
use native.Mathlib.Omega.{arith}
use borrow.Author.Tests.{eqb-true}
use Rattle.block.specs.Types.{types}
use Rattle.hunting.specs.Unlocked.{control_of}
use Rattle.hunting.proofs.Unlocked.{times_le, header_small, tests_any, tests_some, tests_read}
use borrow.Author.Rules.{rules}
use Rattle.hunting.proofs.hunts_on.Goals as goal

pub control-requires : goal.control-requires
control-requires c = header_small c.args.line.now c.args.s.pos _ c.one_at-b.ensures.0

pub overflow_mul-control : goal.overflow_mul-control
overflow_mul-control c = search (rules, times_le c.control.result c.type_row-row.result c.control.ensures.1)

pub returns-then-control-row-eq0 : goal.returns-then-control-row-eq0
returns-then-control-row-eq0 c =
    let b = c.one_at-b in
    let line = c.args.line.now in
    let s = c.args.s in
    let word = c.descramble-plain in
    λ e.
    let row_is : control_of b.result.header * get_or types (word.result.word % 256) 0 ≡ c.control.result * c.type_row-row.result = ap₂ (λ (a b : ℕ). a * b) (sym c.control.ensures.0) (sym c.type_row-row.ensures) in (
      omega (arith, c.if-s-line.true),
      omega (arith, c.if-s-lt63.true),
      λ ed. tests_read line s.pos s.history _ _ _ b.ensures.0 b.ensures.1 word.ensures.0 ed
          (tests_any ed _ _ (header_small line s.pos _ b.ensures.0) (row_is ∙ eqb-true _ 0 e)),
    )

pub returns-else-control-row-eq0 : goal.returns-else-control-row-eq0
returns-else-control-row-eq0 c =
    let b = c.one_at-b in
    let line = c.args.line.now in
    let s = c.args.s in
    let word = c.descramble-plain in
    λ e.
    let row_is : control_of b.result.header * get_or types (word.result.word % 256) 0 ≡ c.control.result * c.type_row-row.result = ap₂ (λ (a b : ℕ). a * b) (sym c.control.ensures.0) (sym c.type_row-row.ensures) in (
      omega (arith, c.if-s-line.true),
      omega (arith, c.if-s-lt63.true),
      λ ed. tests_read line s.pos s.history _ _ _ b.ensures.0 b.ensures.1 word.ensures.0 ed
          (tests_some ed _ _ c.quick.result (header_small line s.pos _ b.ensures.0) (λ z. c.if-control-row-eq0.false (sym row_is ∙ z)) c.quick.ensures (sym c.is_some.ensures ∙ e)),
    )
