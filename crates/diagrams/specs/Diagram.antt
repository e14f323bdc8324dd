-- Document 01, 'Diagrams', Transmit and Receive, with the state that document 02, 9/13, adds; the sentences on LI are those of docs/DECISIONS.md, 'The
-- newer edition'. In the old edition kind LI, and with it state LI, does not arise. The two diagrams differ in one thing: receiving goes to T only
-- "if the next block is S or C", or LI.
use Rattle.std.specs.Prelude.{ℕ, Bool, true, false, cond}
use Rattle.block.specs.declared.Kind.{Kind}
use Rattle.block.specs.declared.Kind.TheVariants.{D, C, S, T, LI, E}
use Rattle.diagrams.specs.declared.State.{State}
use Rattle.diagrams.specs.declared.State.TheVariants.{Init, Control, Data, Terminate, Error, LowPower}

-- "INIT, C, D, T, E are numbered 0 to 4"; "LI is numbered 5"
abbrev pub state_number : State → ℕ
state_number Init = 0
state_number Control = 1
state_number Data = 2
state_number Terminate = 3
state_number Error = 4
state_number LowPower = 5

-- "after INIT, C or T, kind C goes to C, S to D, others to E"; "After C or T: .. LI to LI". Where LI goes is `low`.
unfoldable pub after_idle : (low : State) → Kind → State
after_idle low C = Control
after_idle low S = Data
after_idle low D = Error
after_idle low T = Error
after_idle low E = Error
after_idle low LI = low

-- "After D: D to D, T to T, others to E." A frame may end where `ends` says so.
unfoldable pub after_data : Kind → Bool → State
after_data D ends = Data
after_data T ends = cond ends Terminate Error
after_data C ends = Error
after_data S ends = Error
after_data E ends = Error
after_data LI ends = Error

-- "After E: C to C, D to D, T to T, E and S to E."; "LI to LI"
unfoldable pub after_error : Kind → Bool → State
after_error C ends = Control
after_error D ends = Data
after_error T ends = cond ends Terminate Error
after_error E ends = Error
after_error S ends = Error
after_error LI ends = LowPower

-- "After LI: LI to LI, C to C, others to E."
unfoldable pub after_low : Kind → State
after_low LI = LowPower
after_low C = Control
after_low D = Error
after_low S = Error
after_low T = Error
after_low E = Error

unfoldable pub diagram_of : State → Kind → Bool → State
diagram_of Init k ends = after_idle Error k
diagram_of Control k ends = after_idle LowPower k
diagram_of Terminate k ends = after_idle LowPower k
diagram_of Data k ends = after_data k ends
diagram_of Error k ends = after_error k ends
diagram_of LowPower k ends = after_low k

-- sending: a frame may end at any T
abbrev pub transmit_of : State → Kind → State
transmit_of s k = diagram_of s k true

-- "S or C"; "S, C or LI": the kinds that let a Terminate before them end its frame
unfoldable pub follows : Kind → Bool
follows S = true
follows C = true
follows D = false
follows T = false
follows E = false
follows LI = true
