-- The promises fix the whole answer: any two that meet one are equal. Assumes nothing.
use Prim.Native.Nat.{ℕ}
use mathlib.Core.Path.{◌≡◌, sym, ◌∙◌}
use Rattle.receiving.specs.declared.Handed.{Handed}
use Rattle.receiving.specs.declared.Progress.{Progress}
use Rattle.kept_state.specs.declared.State.{State}
use Rattle.advancing.specs.Coded.{progressed, closed_with}

-- `next_state`
pub next_state_unique : (s : State) (line : ℕ) (r : Progress) (a b : State) → a ≡ progressed s line r → b ≡ progressed s line r → a ≡ b
next_state_unique s line r a b p q = p ∙ sym q

-- `closed_state`
pub closed_state_unique : (s : State) (last : Handed) (a b : State) → a ≡ closed_with s last → b ≡ closed_with s last → a ≡ b
closed_state_unique s last a b p q = p ∙ sym q
