-- The diagrams' step by the kind of the block and one test of the state, and that without kind LI there is no state LI.
use mathlib.Core.Path.{◌≡◌, refl, ◌∙◌, sym, subst}
use mathlib.Core.Bool.{Bool, true, false, ◌&&◌, cond}
use lib.Dec.{T as Yes}
use Rattle.block.specs.declared.Kind.{Kind}
use Rattle.block.specs.declared.Kind.TheVariants.{D, C, S, T, LI, E}
use Rattle.diagrams.specs.Diagram.{diagram_of, after_idle, after_data, after_error, after_low}
use Rattle.diagrams.specs.Parts.{is_data, goes_on, may_begin, by_tests}
use Rattle.diagrams.specs.declared.State.{State}
use Rattle.diagrams.specs.declared.State.TheVariants.{Init, Control, Data, Terminate, Error, LowPower}

pub by_tests_lem : (s : State) (k : Kind) (ends : Bool) → diagram_of s k ends ≡ by_tests s k ends
unfolding diagram_of after_idle after_data after_error after_low
by_tests_lem Init D ends = refl
by_tests_lem Init C ends = refl
by_tests_lem Init S ends = refl
by_tests_lem Init T ends = refl
by_tests_lem Init E ends = refl
by_tests_lem Init LI ends = refl
by_tests_lem Control D ends = refl
by_tests_lem Control C ends = refl
by_tests_lem Control S ends = refl
by_tests_lem Control T ends = refl
by_tests_lem Control E ends = refl
by_tests_lem Control LI ends = refl
by_tests_lem Data D ends = refl
by_tests_lem Data C ends = refl
by_tests_lem Data S ends = refl
by_tests_lem Data T ends = refl
by_tests_lem Data E ends = refl
by_tests_lem Data LI ends = refl
by_tests_lem Terminate D ends = refl
by_tests_lem Terminate C ends = refl
by_tests_lem Terminate S ends = refl
by_tests_lem Terminate T ends = refl
by_tests_lem Terminate E ends = refl
by_tests_lem Terminate LI ends = refl
by_tests_lem Error D ends = refl
by_tests_lem Error C ends = refl
by_tests_lem Error S ends = refl
by_tests_lem Error T ends = refl
by_tests_lem Error E ends = refl
by_tests_lem Error LI ends = refl
by_tests_lem LowPower D ends = refl
by_tests_lem LowPower C ends = refl
by_tests_lem LowPower S ends = refl
by_tests_lem LowPower T ends = refl
by_tests_lem LowPower E ends = refl
by_tests_lem LowPower LI ends = refl

-- kind E leads to state E
pub error_any : (s : State) (ends : Bool) → diagram_of s E ends ≡ Error
error_any s ends = by_tests_lem s E ends

-- a frame that may not end does not
pub never_ends : (b : Bool) → cond (b && false) Terminate Error ≡ Error
never_ends true = refl
never_ends false = refl

-- every state but LI
abbrev is_else : State → Bool
is_else Init = true
is_else Control = true
is_else Data = true
is_else Terminate = true
is_else Error = true
is_else LowPower = false

-- one of two states that are not LI is not LI
other : (b : Bool) (x y : State) → Yes (is_else x) → Yes (is_else y) → cond b x y ≡ LowPower → ⊥
other true x y t u e = subst (λ (z : State). Yes (is_else z)) e t
other false x y t u e = subst (λ (z : State). Yes (is_else z)) e u

-- "In the old one nothing changes": without kind LI the diagrams never come to state LI.
pub never_low : (s : State) (k : Kind) (ends : Bool) → (k ≡ LI → ⊥) → diagram_of s k ends ≡ LowPower → ⊥
never_low s D ends m e = other (goes_on s) Data Error tt tt (sym (by_tests_lem s D ends) ∙ e)
never_low s C ends m e = other (is_data s) Error Control tt tt (sym (by_tests_lem s C ends) ∙ e)
never_low s S ends m e = other (may_begin s) Data Error tt tt (sym (by_tests_lem s S ends) ∙ e)
never_low s T ends m e = other (goes_on s && ends) Terminate Error tt tt (sym (by_tests_lem s T ends) ∙ e)
never_low s E ends m e = other true Error Error tt tt (sym (by_tests_lem s E ends) ∙ e)
never_low s LI ends m e = m refl
