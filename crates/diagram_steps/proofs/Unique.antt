-- Any two answers that meet a function's promise are equal.
use mathlib.Core.Path.{◌≡◌, sym, ◌∙◌}
use mathlib.Core.Bool.{Bool}
use Rattle.block.specs.declared.Kind.{Kind}
use Rattle.diagrams.specs.Diagram.{diagram_of, follows}
use Rattle.diagrams.specs.declared.State.{State}

pub diagram_step_unique : (s : State) (k : Kind) (ends : Bool) (a b : State) → a ≡ diagram_of s k ends → b ≡ diagram_of s k ends → a ≡ b
diagram_step_unique s k ends a b p q = p ∙ sym q

pub may_follow_unique : (k : Kind) (a b : Bool) → a ≡ follows k → b ≡ follows k → a ≡ b
may_follow_unique k a b p q = p ∙ sym q
