-- `slices::clear` meets its contract: a summary long enough, or too short. Assumes nothing.
use mathlib.Core.Path.{sym, ◌∙◌}
use lib.ListN.{replicate}
use native.Mathlib.Omega.{arith}
use Rattle.slices.specs.Slices.{receive_length}
use Rattle.lent_words.proofs.Laws.{summary_short, summary_long}
use Rattle.slices.proofs.clear.Goals as goal

pub returns-then-summary-ge96 : goal.returns-then-summary-ge96
returns-then-summary-ge96 c = c.put_words.ensures ∙ sym (summary_long receive_length (replicate receive_length 0) c.args.summary.now c.if-summary-ge96.true)

pub returns-else-summary-ge96 : goal.returns-else-summary-ge96
returns-else-summary-ge96 c = sym (summary_short receive_length (replicate receive_length 0) c.args.summary.now (omega (arith, c.if-summary-ge96.false)))
