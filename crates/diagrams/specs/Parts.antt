-- A reviewer can skip this file: four tests of a state, and the diagrams' step by the kind of the block and one of them, as the code takes it.
use Rattle.std.specs.Prelude.{Bool, true, false, ◌&&◌, cond}
use Rattle.block.specs.declared.Kind.{Kind}
use Rattle.block.specs.declared.Kind.TheVariants.{D, C, S, T, LI, E}
use Rattle.diagrams.specs.declared.State.{State}
use Rattle.diagrams.specs.declared.State.TheVariants.{Init, Control, Data, Terminate, Error, LowPower}

-- D
abbrev pub is_data : State → Bool
is_data Init = false
is_data Control = false
is_data Data = true
is_data Terminate = false
is_data Error = false
is_data LowPower = false

-- D or E: the states in which data may go on
abbrev pub goes_on : State → Bool
goes_on Init = false
goes_on Control = false
goes_on Data = true
goes_on Terminate = false
goes_on Error = true
goes_on LowPower = false

-- INIT, C or T: the states after which a frame may begin
abbrev pub may_begin : State → Bool
may_begin Init = true
may_begin Control = true
may_begin Data = false
may_begin Terminate = true
may_begin Error = false
may_begin LowPower = false

-- C, T, E or LI: the states after which low power idle may come
abbrev pub may_rest : State → Bool
may_rest Init = false
may_rest Control = true
may_rest Data = false
may_rest Terminate = true
may_rest Error = true
may_rest LowPower = true

-- the step
abbrev pub by_tests : State → Kind → (ends : Bool) → State
by_tests s D ends = cond (goes_on s) Data Error
by_tests s S ends = cond (may_begin s) Data Error
by_tests s C ends = cond (is_data s) Error Control
by_tests s T ends = cond (goes_on s && ends) Terminate Error
by_tests s E ends = Error
by_tests s LI ends = cond (may_rest s) LowPower Error
