-- The promise of `bad_state` fixes its answer: any two that meet it are equal. Assumes nothing.
use mathlib.Core.Path.{◌≡◌, sym, ◌∙◌}
use mathlib.Core.Bool.{Bool}
use Rattle.kept_state.specs.declared.State.{State}
use Rattle.bad_states.specs.BadStates.{bad_state}

pub bad_state_unique : (s : State) (a b : Bool) → a ≡ bad_state s → b ≡ bad_state s → a ≡ b
bad_state_unique s a b p q = p ∙ sym q
