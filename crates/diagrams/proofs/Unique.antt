-- Any two answers that meet a function's promise are equal.
use Prim.Native.Nat.{ℕ, ◌<◌}
use mathlib.Core.Path.{◌≡◌, sym, ◌∙◌}
use mathlib.Core.Bool.{Bool}
use Rattle.diagrams.specs.Diagram.{state_number}
use Rattle.diagrams.specs.Parts.{is_data, goes_on, may_begin, may_rest}
use Rattle.diagrams.specs.declared.State.{State}

pub state_number_unique : (s : State) (a b : ℕ) → (a ≡ state_number s) × (a < 6) → (b ≡ state_number s) × (b < 6) → a ≡ b
state_number_unique s a b p q = p.0 ∙ sym q.0

pub is_data_unique : (s : State) (a b : Bool) → a ≡ is_data s → b ≡ is_data s → a ≡ b
is_data_unique s a b p q = p ∙ sym q

pub goes_on_unique : (s : State) (a b : Bool) → a ≡ goes_on s → b ≡ goes_on s → a ≡ b
goes_on_unique s a b p q = p ∙ sym q

pub may_begin_unique : (s : State) (a b : Bool) → a ≡ may_begin s → b ≡ may_begin s → a ≡ b
may_begin_unique s a b p q = p ∙ sym q

pub may_rest_unique : (s : State) (a b : Bool) → a ≡ may_rest s → b ≡ may_rest s → a ≡ b
may_rest_unique s a b p q = p ∙ sym q
