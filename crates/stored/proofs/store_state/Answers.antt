-- `stored::store_state` meets its contract. Assumes nothing.
use Prim.Native.Nat.{ℕ, ◌*◌}
use mathlib.Core.Path.{ap, ◌∙◌}
use mathlib.Core.List.{List, ◌++◌}
use lib.ListN.{length, drop}
use Rattle.lent_words.specs.Words.{word_bytes}
use Rattle.stored.specs.Stored.{stored_in}
use Rattle.stored.proofs.store_state.Goals as goal

pub returns : goal.returns
unfolding stored_in
returns c = c.put_words.ensures ∙ ap (λ (w : List ℕ). word_bytes 8 w ++ drop (8 * length w) c.args.bytes.now) c.words.ensures
