-- `bursts::burst` meets its contract. Refused by the checks, or from the receiver that the state means. Assumes nothing.
use mathlib.Core.Path.{sym, ap, ◌∙◌}
use lib.ListN.{length}
use Rattle.judging.specs.Coded.{verdict_said}
use Rattle.bad_states.proofs.Limits.{within_limits}
use Rattle.judging.proofs.Checks.{passed_all}
use Rattle.bursts.proofs.Going.{burst_refused}
use Rattle.bursts.proofs.burst.Goals as goal

pub receiver_of-requires : goal.receiver_of-requires
receiver_of-requires c = within_limits c.args.s (passed_all c.args.s (length c.args.line.now) (length c.args.room.now) (sym c.judge.ensures ∙ ap verdict_said c.in-Ok.is)).good

pub burst_from-requires : goal.burst_from-requires
burst_from-requires c = record { passes = sym c.judge.ensures ∙ ap verdict_said c.in-Ok.is; means = c.receiver_of.ensures }

pub returns-in-Err : goal.returns-in-Err
returns-in-Err c =
    burst_refused c.args.s c.args.line.now c.args.room.now _ c.refused.result c.refused.ensures.0 c.refused.ensures.1 c.refused.ensures.2
    (sym (ap verdict_said c.in-Err.is) ∙ c.judge.ensures)
