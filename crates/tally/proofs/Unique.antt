-- Any two answers that meet the promise are equal.
use Prim.Native.Nat.{ℕ}
use mathlib.Core.Path.{◌≡◌, sym, ◌∙◌}
use mathlib.Core.List.{List}
use Rattle.block.specs.Block.{vector_list}
use Rattle.tally.specs.Tally.{tally_of}
use Rattle.tally.specs.declared.Tally.{Tally}

pub tally_of_unique : (vectors : List ℕ) (r r' : Tally) → r ≡ tally_of (vector_list vectors) → r' ≡ tally_of (vector_list vectors) → r ≡ r'
tally_of_unique vectors r r' p q = p ∙ sym q
