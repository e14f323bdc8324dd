use mathlib.Core.Path.{sym, ◌∙◌}
use borrow.Author.Rules.{rules}
use denote.Enum.Bare.{same_true}
use Rattle.block.specs.Block.{kind_in}
use Rattle.diagrams.specs.contracts.State.{the_type}
use Rattle.lock_steps.specs.InLock.{GoesTo}
use Rattle.lock_groups.proofs.FourInLock.{goes_on_lem}
use Rattle.lock_groups.proofs.goes_to.Goals as goal

pub returns : goal.returns
unfolding GoesTo
returns c =
    let s = c.args.s in
    λ e. goes_on_lem c.args.state c.requires s.state (kind_in s.class)
    (sym c.state_next.ensures ∙ same_true the_type (search rules) _ _ (sym c.eq.ensures ∙ e))
