-- From a state other than LI, on a kind other than LI, both diagrams take the step that they took. Assumes nothing.
use mathlib.Core.Path.{◌≡◌, refl, ap}
use mathlib.Core.Bool.{Bool, ◌||◌}
use Prim.Native.Nat.{ℕ}
use native.Mathlib.Omega.{arith}
use Rattle.block.specs.declared.Kind.{Kind}
use Rattle.block.specs.declared.Kind.TheVariants.{D, C, S, T, E, LI}
use Rattle.block.specs.Block.{is_c, is_s}
use Rattle.diagrams.specs.Diagram.{after_idle, after_data, after_error, diagram_of, follows, state_number}
use Rattle.diagrams.specs.declared.State.{State}
use Rattle.diagrams.specs.declared.State.TheVariants.{Init, Control, Data, Terminate, Error, LowPower}
use Rattle.editions.specs.Before.{idle_before, data_before, error_before, step_before}

idle : (low : State) (k : Kind) → (k ≡ LI → ⊥) → after_idle low k ≡ idle_before k
unfolding after_idle
idle low D n = refl
idle low C n = refl
idle low S n = refl
idle low T n = refl
idle low E n = refl
idle low LI n = absurd (n refl)

frame : (k : Kind) (e : Bool) → (k ≡ LI → ⊥) → after_data k e ≡ data_before k e
unfolding after_data
frame D e n = refl
frame C e n = refl
frame S e n = refl
frame T e n = refl
frame E e n = refl
frame LI e n = absurd (n refl)

error : (k : Kind) (e : Bool) → (k ≡ LI → ⊥) → after_error k e ≡ error_before k e
unfolding after_error
error D e n = refl
error C e n = refl
error S e n = refl
error T e n = refl
error E e n = refl
error LI e n = absurd (n refl)

pub same_step : (s : State) (k : Kind) (e : Bool) → (s ≡ LowPower → ⊥) → (k ≡ LI → ⊥) → diagram_of s k e ≡ step_before s k e
unfolding diagram_of
same_step Init k e m n = idle Error k n
same_step Control k e m n = idle LowPower k n
same_step Data k e m n = frame k e n
same_step Terminate k e m n = idle LowPower k n
same_step Error k e m n = error k e n
same_step LowPower k e m n = absurd (m refl)

-- "S or C"
pub same_follows : (k : Kind) → (k ≡ LI → ⊥) → follows k ≡ is_s k || is_c k
unfolding follows
same_follows D n = refl
same_follows C n = refl
same_follows S n = refl
same_follows T n = refl
same_follows E n = refl
same_follows LI n = absurd (n refl)

-- INIT is not LI
pub first : Init ≡ LowPower → ⊥
first e = let z : ◌≡◌ {A = ℕ} 0 5 = ap state_number e in omega arith
