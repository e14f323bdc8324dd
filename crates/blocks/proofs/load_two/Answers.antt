-- `blocks::load_two` meets its contract. Assumes nothing.
use mathlib.Core.Path.{refl, ◌∙◌}
use Rattle.blocks.proofs.Laws.{two_bytes}
use Rattle.blocks.proofs.load_two.Goals as goal

pub returns : goal.returns
returns c = c.from.ensures ∙ c.from_le_bytes.ensures ∙ two_bytes c.args.s.now (λ i. (c.type_inv.s i).fits) c.args.at _ _ refl refl
