-- `stored::load_state` meets its contract. The loop's invariant: the words so far are those of the bytes. Assumes nothing.
use Prim.Native.Nat.{ℕ, ◌<◌}
use mathlib.Core.Path.{◌≡◌}
use lib.ListN.{get_or}
use Rattle.lent_words.specs.Words.{word_at}
use Rattle.stored.proofs.load_state.Given as goal

abbrev pub invariant-loop-i : goal.invariant-loop-i
invariant-loop-i l = (k : ℕ) → k < l.i → get_or l.word-items k 0 ≡ word_at 8 l.bytes k
