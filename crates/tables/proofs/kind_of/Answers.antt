-- `tables::kind_of` meets its contract: low power idle, or the kind of the row. Assumes nothing.
use mathlib.Core.Path.{sym, ◌∙◌}
use Rattle.block.specs.Block.{kind_for}
use Rattle.tables.proofs.kind_of.Goals as goal

pub returns-then-low_power : goal.returns-then-low_power
unfolding kind_for
returns-then-low_power c = rw (sym c.low_power.ensures ∙ c.if-low_power.true)

pub returns-else-low_power : goal.returns-else-low_power
unfolding kind_for
returns-else-low_power c = rw (sym c.low_power.ensures ∙ c.if-low_power.false) c.kind_at.ensures
