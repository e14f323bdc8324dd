-- Document 02, 2/13, through C: however the bytes are cut, the vectors joined, the last summary and the counters are those of one call of
-- `holzmotte_receive` over the whole. As types: the proofs are in proofs/.
use Rattle.std.specs.Prelude.{ℕ, ◌-◌, ◌*◌, ◌≤◌, false, cond, ◌≡◌, List, [], ◌∷◌, ◌++◌, take, eqb}
use Rattle.slices.specs.Slices.{receive_length}
use Rattle.bad_states.specs.BadStates.{bad_state}
use Rattle.bursts.specs.Burst.{at_start}
use Rattle.stored.specs.Stored.{state_in}
use Rattle.holzmotte.specs.Boundary.{ReceivesThroughC}
use Rattle.holzmotte_bursts.specs.Boundary.{BeginsThroughC, Left, burst_left, close_left, Leaves}

-- a call with the room and the summary that are lent to it
pub data CallThroughC : Type 0 where
  burst : (line vectors summary : List ℕ) → CallThroughC
  close : (vectors summary : List ℕ) → CallThroughC

abbrev pub left_of : (state counters : List ℕ) → CallThroughC → Left
left_of state counters (burst line vectors summary) = burst_left state line vectors summary counters
left_of state counters (close vectors summary) = close_left state vectors summary counters

-- a call that was made: its result, and what it left in the slices
pub record MadeThroughC : Type 0 where
  pub call : CallThroughC
  pub result : ℕ
  pub state : List ℕ
  pub vectors : List ℕ
  pub summary : List ℕ
  pub counters : List ℕ

-- calls one after the other with one state and one record of counters, each by its promise
abbrev pub FollowThroughC : (state counters : List ℕ) → List MadeThroughC → Type 0
FollowThroughC state counters [] = Unit
FollowThroughC state counters (m ∷ ms) =
    Leaves (left_of state counters m.call) m.result m.state m.vectors m.summary m.counters × FollowThroughC m.state m.counters ms

-- what a caller then has: the state and the counters; the line bytes of the calls whose result was 0; and the vectors, as many of each call
-- as its state counts more
abbrev pub taken_through_c : CallThroughC → (result : ℕ) → List ℕ
taken_through_c (burst line vectors summary) result = cond (eqb result 0) line []
taken_through_c (close vectors summary) result = []

abbrev pub given_through_c : (state state' vectors : List ℕ) → List ℕ
given_through_c state state' vectors = take (10 * ((state_in state').vectors - (state_in state).vectors)) vectors

unfoldable pub state_through_c : (state : List ℕ) → List MadeThroughC → List ℕ
state_through_c state [] = state
state_through_c state (m ∷ ms) = state_through_c m.state ms

unfoldable pub counters_through_c : (counters : List ℕ) → List MadeThroughC → List ℕ
counters_through_c counters [] = counters
counters_through_c counters (m ∷ ms) = counters_through_c m.counters ms

unfoldable pub line_through_c : List MadeThroughC → List ℕ
line_through_c [] = []
line_through_c (m ∷ ms) = taken_through_c m.call m.result ++ line_through_c ms

unfoldable pub bytes_through_c : (state : List ℕ) → List MadeThroughC → List ℕ
bytes_through_c state [] = []
bytes_through_c state (m ∷ ms) = given_through_c state m.state m.vectors ++ bytes_through_c m.state ms

-- Once a closing call is accepted, after any calls with a fresh state: all the vectors joined, its summary and the counters are those of one
-- call of `holzmotte_receive` over the bytes that were taken, with the counters that the first call found.
abbrev pub WholeThroughC : Type 0
WholeThroughC =
    (edition : ℕ) (slice state : List ℕ) → BeginsThroughC edition slice 0 state
    → (counters : List ℕ) (ms : List MadeThroughC) → FollowThroughC state counters ms
    → (vectors summary state' vectors' summary' counters' : List ℕ)
    → Leaves (close_left (state_through_c state ms) vectors summary (counters_through_c counters ms)) 0 state' vectors' summary' counters'
    → (room sum room' sum' counters'' : List ℕ) → ReceivesThroughC edition (line_through_c ms) room sum counters 0 room' sum' counters''
    → (room' ≡ at_start (bytes_through_c state ms ++ given_through_c (state_through_c state ms) state' vectors') room)
    × (take (8 * receive_length) sum' ≡ take (8 * receive_length) summary')
    × (counters'' ≡ counters')

-- What `holzmotte_begin` wrote, and since then these functions alone, is never refused with 10, nor with 13.
abbrev pub NeverBadThroughC : Type 0
NeverBadThroughC =
    (edition : ℕ) (slice state : List ℕ) → BeginsThroughC edition slice 0 state
    → (counters : List ℕ) (ms : List MadeThroughC) → FollowThroughC state counters ms
    → (bad_state (state_in (state_through_c state ms)) ≡ false) × ((state_in (state_through_c state ms)).edition ≤ 1)
