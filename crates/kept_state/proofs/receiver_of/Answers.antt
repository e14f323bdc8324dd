-- `kept_state::receiver_of` meets its contract. Its numbers are within their limits. Assumes nothing.
use mathlib.Core.Path.{ap}
use mathlib.Core.Bool.{cond}
use mathlib.Core.List.{[], ◌∷◌}
use Rattle.receiving.specs.Machine.{Tested}
use Rattle.receiving.specs.Loop as Loop
use Rattle.kept_state.specs.Meaning.{held_by, feed_meant}
use Rattle.kept_state.proofs.receiver_of.Goals as goal

pub masked-requires : goal.masked-requires
masked-requires c = c.requires.carried

pub returns : goal.returns
unfolding Loop.feed_in Loop.held_in feed_meant held_by
returns c =
    let s = c.args.s in
    let b = c.masked.ensures.1 in
    let d = c.edition_of.ensures in
    let f = c.requires.range in
    record {
      feed = λ i. record { bits = b i; skip = s.skip; link = record { edition = d i; lock = s.lock; rate = s.rate; history = s.history } };
      range = record { tested = f.tested; invalid = f.invalid; blocks = f.blocks; misses = f.misses; history = f.history };
      sound = c.masked.ensures.0;
      state = c.diagram_by.ensures;
      held = ap (λ (t : Tested). cond s.have (t ∷ []) []) c.block_of.ensures;
    }
