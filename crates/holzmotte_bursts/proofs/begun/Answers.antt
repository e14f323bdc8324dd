-- `holzmotte_bursts::begun` meets its contract. A refusal; a state too short; or a fresh state. Assumes nothing.
use mathlib.Core.Path.{◌≡◌}
use Rattle.std.proofs.lemmas.Result.{err_from_is_err_and}
use Rattle.holzmotte_bursts.proofs.Verdicts.{begin_place, begin_refused, begin_short, begin_done}
use Rattle.holzmotte_bursts.proofs.begun.Goals as goal

pub returns-in_err-s-clause-comes : goal.returns-in_err-s-clause-comes
returns-in_err-s-clause-comes c =
    let p = err_from_is_err_and c.from_residual.result c.from_residual.ensures.1 in
    rw (p.1, p.2) (begin_refused c.args.edition c.args.state.now _ _ c.in_err-s.ensures)

pub returns-in_err-s-clause-fits : goal.returns-in_err-s-clause-fits
returns-in_err-s-clause-fits c e is =
    let p = err_from_is_err_and c.from_residual.result c.from_residual.ensures.1 in
    let same : e ≡ p.0 = cc in
    rw (same, p.2) (begin_place c.args.edition c.args.state.now _ _ c.in_err-s.ensures)

pub returns-then-state-lt232-clause-comes : goal.returns-then-state-lt232-clause-comes
returns-then-state-lt232-clause-comes c = begin_short c.args.edition c.args.state.now _ c.in_ok-s.ensures c.if-state-lt232.true

pub returns-clause-comes : goal.returns-clause-comes
returns-clause-comes c = begin_done c.args.edition c.args.state.now _ _ c.in_ok-s.ensures c.if-state-lt232.false c.store_state.ensures
