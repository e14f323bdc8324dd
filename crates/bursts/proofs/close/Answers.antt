-- `bursts::close` meets its contract. Refused by the checks, or from the receiver that the state means. Assumes nothing.
use mathlib.Core.Path.{sym, ap, ◌∙◌}
use lib.ListN.{length}
use Rattle.judging.specs.Coded.{verdict_said}
use Rattle.bad_states.proofs.Limits.{within_limits}
use Rattle.judging.proofs.Checks.{passed_all}
use Rattle.bursts.proofs.Going.{close_refused}
use Rattle.bursts.proofs.close.Goals as goal

pub receiver_of-requires : goal.receiver_of-requires
receiver_of-requires c = within_limits c.args.s (passed_all c.args.s 0 (length c.args.room.now) (sym c.judge.ensures ∙ ap verdict_said c.in-Ok.is)).good

pub close_from-requires : goal.close_from-requires
close_from-requires c = record { passes = sym c.judge.ensures ∙ ap verdict_said c.in-Ok.is; means = c.receiver_of.ensures }

pub returns-in-Err : goal.returns-in-Err
returns-in-Err c =
    close_refused c.args.s c.args.room.now _ c.refused.result c.refused.ensures.0 c.refused.ensures.1 c.refused.ensures.2
    (sym (ap verdict_said c.in-Err.is) ∙ c.judge.ensures)
