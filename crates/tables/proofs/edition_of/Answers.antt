-- `tables::edition_of` meets its contract.
use borrow.Author.Tests.{eq-eqb, ne_eqb}
use Rattle.block.specs.Block.{edition_of}
use Rattle.tables.proofs.edition_of.Goals as goal

pub returns-then-n-eq0 : goal.returns-then-n-eq0
unfolding edition_of
returns-then-n-eq0 c = rw (eq-eqb _ _ c.if-n-eq0.true)

pub returns-else-n-eq0 : goal.returns-else-n-eq0
unfolding edition_of
returns-else-n-eq0 c = rw (ne_eqb _ _ c.if-n-eq0.false)
