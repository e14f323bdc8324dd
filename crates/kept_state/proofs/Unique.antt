-- The promise of `kept_of` fixes its answer: any two that meet it are equal. Assumes nothing.
use mathlib.Core.Path.{◌≡◌, sym, ◌∙◌}
use mathlib.Core.Bool.{Bool, cond}
use mathlib.Core.List.{[], ◌∷◌}
use Rattle.receiving.specs.Loop.{tested_in}
use Rattle.receiving.specs.declared.Held.{Held}
use Rattle.kept_state.specs.declared.Kept.{Kept}
use Rattle.kept_state.specs.Meaning.{kept_for}

pub kept_of_unique : (have : Bool) (h : Held) (a b : Kept) → a ≡ kept_for (cond have (tested_in h ∷ []) []) → b ≡ kept_for (cond have (tested_in h ∷ []) []) → a ≡ b
kept_of_unique have h a b p q = p ∙ sym q
