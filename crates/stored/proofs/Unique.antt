-- Any two answers, and any two contents of the lent bytes, that meet a function's promise are equal. Assumes nothing.
use Prim.Native.Nat.{ℕ}
use mathlib.Core.Path.{◌≡◌, sym, ◌∙◌}
use mathlib.Core.List.{List}
use Rattle.kept_state.specs.declared.State.{State}
use Rattle.stored.specs.Stored.{state_in, stored_in}

pub load_state_unique : (bytes : List ℕ) (a b : State) → a ≡ state_in bytes → b ≡ state_in bytes → a ≡ b
load_state_unique bytes a b p q = p ∙ sym q

pub store_state_unique : (s : State) (bytes after after' : List ℕ) → after ≡ stored_in s bytes → after' ≡ stored_in s bytes → after ≡ after'
store_state_unique s bytes after after' p q = p ∙ sym q
