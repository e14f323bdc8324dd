-- `captures::receive_record` meets its contract. Assumes nothing.
use mathlib.Core.Path.{sym, ap, ◌∙◌}
use Rattle.std.proofs.lemmas.Result.{err_from_is_err_and}
use Rattle.captures.specs.Captures.{now_of, recorded}
use Rattle.captures.proofs.Recorded.{at_end, at_refusal, at_body}
use Rattle.captures.proofs.receive_record.Goals as goal

pub returns-in_err-line : goal.returns-in_err-line
returns-in_err-line c =
    let p = err_from_is_err_and c.from_residual.result c.from_residual.ensures.1 in
    rw (p.1, p.2) (at_refusal _ _ _ _ _ _ c.in_err-line.ensures)

pub returns-in_default : goal.returns-in_default
returns-in_default c = at_end _ _ _ _ (sym (ap (recorded now_of) c.in_default.is) ∙ c.in_ok-line.ensures)

pub returns : goal.returns
returns c = at_body _ _ _ _ _ _ _ (sym (ap (recorded now_of) c.in-Some.is) ∙ c.in_ok-line.ensures) c.receive.ensures.0 c.receive.ensures.1
