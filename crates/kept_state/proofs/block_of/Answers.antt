-- `kept_state::block_of` meets its contract. Assumes nothing.
use mathlib.Core.Path.{ap, ◌∙◌}
use Rattle.block.specs.Block.{edition_of, good}
use Rattle.receiving.specs.Loop.{tested_in}
use Rattle.kept_state.proofs.Coding.{block_is}
use Rattle.kept_state.proofs.block_of.Goals as goal

pub returns : goal.returns
unfolding tested_in
returns c = block_is (edition_of c.args.edition) c.args.k c.good_class.result (c.good_class.ensures ∙ ap good c.kind_by.ensures)
