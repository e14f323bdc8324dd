-- `gather::judge_window` meets its contract. Assumes nothing.
use mathlib.Core.Path.{sym, ap, ◌∙◌}
use native.Mathlib.Omega.{arith}
use lib.ListN.{length}
use Rattle.std.proofs.lemmas.Result.{err_from_is_err_and}
use Rattle.records.specs.Record.{found}
use Rattle.records.proofs.Laws.{body_length}
use Rattle.gather.proofs.Judged.{ended, refuses, other_kind, too_much, taken}
use Rattle.gather.proofs.judge_window.Goals as goal

pub returns-in_err-record : goal.returns-in_err-record
returns-in_err-record c =
    let p = err_from_is_err_and c.from_residual.result c.from_residual.ensures.1 in
    rw (p.1, p.2) (refuses _ _ _ _ _ c.requires _ _ (sym c.in_err-record.ensures))

pub returns-in_default : goal.returns-in_default
returns-in_default c = ended _ _ _ _ _ c.requires (sym c.in_ok-record.ensures ∙ ap found c.in_default.is)

pub returns-then-number-kind : goal.returns-then-number-kind
returns-then-number-kind c =
    other_kind _ _ _ _ _ c.requires _ _ _ _ (sym c.in_ok-record.ensures ∙ ap found c.in-Some.is) (λ e. c.if-number-kind.true (c.number.ensures.0 ∙ e))

pub returns-then-left-record : goal.returns-then-left-record
returns-then-left-record c =
    too_much _ _ _ _ _ c.requires _ _ _ _ (sym c.in_ok-record.ensures ∙ ap found c.in-Some.is) (sym c.number.ensures.0 ∙ c.if-number-kind.false)
    c.if-left-record.true

pub put-requires : goal.put-requires
put-requires c =
    let n = body_length _ _ _ _ _ _ _ (sym c.in_ok-record.ensures ∙ ap found c.in-Some.is) in
    let e = ap length c.body.ensures in
    omega (arith, n, e)

pub returns : goal.returns
returns c =
    taken _ _ _ _ _ c.requires _ _ _ _ (sym c.in_ok-record.ensures ∙ ap found c.in-Some.is) _ _
    (sym c.number.ensures.0 ∙ c.if-number-kind.false) c.if-left-record.false c.body.ensures c.put.ensures
