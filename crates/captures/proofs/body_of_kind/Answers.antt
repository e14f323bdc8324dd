-- `captures::body_of_kind` meets its contract. Assumes nothing.
use mathlib.Core.Path.{sym, ap, ◌∙◌}
use Rattle.std.proofs.lemmas.Result.{err_from_is_err_and}
use Rattle.records.specs.Record.{found}
use Rattle.captures.specs.Captures.{body}
use Rattle.captures.proofs.Recorded.{differ, agree, no_more, unread, other, own}
use Rattle.captures.proofs.body_of_kind.Goals as goal

pub returns-in_err-record : goal.returns-in_err-record
returns-in_err-record c =
    let p = err_from_is_err_and c.from_residual.result c.from_residual.ensures.1 in
    rw (p.1, p.2) (unread _ _ _ _ _ (sym c.in_err-record.ensures))

pub returns-in_default : goal.returns-in_default
returns-in_default c = no_more _ _ _ (sym c.in_ok-record.ensures ∙ ap found c.in_default.is)

pub returns-then-ne : goal.returns-then-ne
returns-then-ne c =
    other _ _ _ _ _ _ _ (sym c.in_ok-record.ensures ∙ ap found c.in-Some.is) (differ c.in-Some.record.kind c.args.kind (sym c.ne.ensures ∙ c.if-ne.true))

pub returns : goal.returns
returns c =
    ap body c.body.ensures
    ∙ own _ _ _ _ _ _ _ (sym c.in_ok-record.ensures ∙ ap found c.in-Some.is) (agree c.in-Some.record.kind c.args.kind (sym c.ne.ensures ∙ c.if-ne.false))
