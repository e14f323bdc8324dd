-- Document 02, 2/13: "However the bytes are cut, zero-length bursts too, all the vectors joined and the last summary equal those of one call
-- over the whole." As types: the proofs are in proofs/.
use Rattle.std.specs.Prelude.{ℕ, ◌+◌, ◌-◌, ◌*◌, ◌/◌, ◌≤◌, ◌≡◌, false, length, take, Result}
use mathlib.Core.List.{List, [], ◌∷◌, ◌++◌, flatten}
use Rattle.refusals.specs.First.{accepted}
use Rattle.refusals.specs.declared.Refused.{Refused}
use Rattle.block.specs.Block.{edition_of}
use Rattle.receiving.specs.Receive.{judged_alone, received_vectors}
use Rattle.receiving.specs.Parts.{no_counts, plus, none_handed, plus_handed, bytes_of}
use Rattle.receiving.specs.Answer.{ReceiveAnswer, received, summary_of, answer_of, Receives}
use Rattle.receiving.specs.Answer as Answer
use Rattle.receiving.specs.declared.Summary.{Summary}
use Rattle.kept_state.specs.declared.State.{State}
use Rattle.bursts.specs.declared.Added.{Added}
use Rattle.bursts.specs.declared.Reply.{Reply}
use Rattle.bad_states.specs.BadStates.{bad_state}
use Rattle.judging.specs.Judging.{room_for, burst_verdict}
use Rattle.bursts.specs.Burst.{state_fresh, begun, begin_answer, burst_bytes, burst_added, burst_state, close_judged, close_added, close_state, summary_in, Called, at_start, burst_call, close_call, Replies}

-- what two calls added
abbrev pub plus_added : Added → Added → Added
plus_added a b = record { counts = plus a.counts b.counts; handed = plus_handed a.handed b.handed }

-- nothing
abbrev pub none_added : Added
none_added = record { counts = no_counts; handed = none_handed }

-- what a summary counts
abbrev pub added_in : Summary → Added
added_in s = record { counts = s.counts; handed = s.handed }

-- ---- over the bursts themselves

-- the state after them, the bytes of their vectors, joined, and what they added
unfoldable pub state_over : State → List (List ℕ) → State
state_over s [] = s
state_over s (b ∷ bs) = state_over (burst_state s b) bs

unfoldable pub bytes_over : State → List (List ℕ) → List ℕ
bytes_over s [] = []
bytes_over s (b ∷ bs) = burst_bytes s b ++ bytes_over (burst_state s b) bs

unfoldable pub added_over : State → List (List ℕ) → Added
added_over s [] = none_added
added_over s (b ∷ bs) = plus_added (burst_added s b) (added_over (burst_state s b) bs)

-- with the closing call, the vectors, the last summary and what was added are those of the joined line
abbrev pub Cut : Type 0
Cut =
    (edition : ℕ) (bursts : List (List ℕ))
    → let s = state_over (state_fresh edition) bursts in
    let one = summary_of (edition_of edition) (flatten bursts) in
    (bytes_over (state_fresh edition) bursts ++ bytes_of (close_judged s) ≡ received_vectors (edition_of edition) (flatten bursts))
    × (summary_in (close_state s) (judged_alone (close_judged s)) ≡ one)
    × (plus_added (added_over (state_fresh edition) bursts) (close_added s) ≡ added_in one)

-- ---- over calls, any of which may be refused

-- a call with the room that is lent to it
pub data Call : Type 0 where
  burst : (line room : List ℕ) → Call
  close : (room : List ℕ) → Call

abbrev pub call_of : State → Call → Called
call_of s (burst line room) = burst_call s line room
call_of s (close room) = close_call s room

-- a call that was made: what it handed back, and what it left in the room
pub record Made : Type 0 where
  pub call : Call
  pub reply : Reply
  pub room : List ℕ

-- calls one after the other, each with the state that the one before it handed back, and each by its promise
abbrev pub Follow : State → List Made → Type 0
Follow s [] = Unit
Follow s (m ∷ ms) = Replies (call_of s m.call) m.reply m.room × Follow m.reply.state ms

-- what a caller then has: the state; the line bytes that were taken; the vectors, as many of each call as its state counts more; and what
-- was added
abbrev pub taken_by : Call → ReceiveAnswer → List ℕ
taken_by (burst line room) (received summary) = line
taken_by (burst line room) (Answer.refused number place) = []
taken_by (close room) answer = []

abbrev pub given_by : State → Reply → (room : List ℕ) → List ℕ
given_by s r room = take (10 * (r.state.vectors - s.vectors)) room

unfoldable pub state_after_calls : State → List Made → State
state_after_calls s [] = s
state_after_calls s (m ∷ ms) = state_after_calls m.reply.state ms

unfoldable pub line_after_calls : List Made → List ℕ
line_after_calls [] = []
line_after_calls (m ∷ ms) = taken_by m.call (answer_of m.reply.answer) ++ line_after_calls ms

unfoldable pub bytes_after_calls : State → List Made → List ℕ
bytes_after_calls s [] = []
bytes_after_calls s (m ∷ ms) = given_by s m.reply m.room ++ bytes_after_calls m.reply.state ms

unfoldable pub added_after_calls : List Made → Added
added_after_calls [] = none_added
added_after_calls (m ∷ ms) = plus_added m.reply.added (added_after_calls ms)

-- A line in bursts: a fresh state, any calls, and an accepted closing call; of them all, the line bytes that were taken, the vectors' bytes
-- joined, and the last summary
pub record InBursts (edition : ℕ) (line bytes : List ℕ) (last : Summary) : Type 0 where
  pub fresh : State
  pub begins : begin_answer edition ≡ begun fresh
  pub calls : List Made
  pub follow : Follow fresh calls
  pub room : List ℕ
  pub reply : Reply
  pub left : List ℕ
  pub closes : Replies (close_call (state_after_calls fresh calls) room) reply left
  pub ends : answer_of reply.answer ≡ received last
  pub whole : line_after_calls calls ≡ line
  pub joined : bytes_after_calls fresh calls ++ given_by (state_after_calls fresh calls) reply left ≡ bytes

-- the vectors and the last summary are those of the joined line; so what "Demands 2 and 3" say of them, "read over the joined line", holds
abbrev pub AsOne : Type 0
AsOne =
    (edition : ℕ) (line bytes : List ℕ) (last : Summary) → InBursts edition line bytes last
    → (bytes ≡ received_vectors (edition_of edition) line) × (last ≡ summary_of (edition_of edition) line)

-- and of one call of `receive` over it, in any room that it takes; what the calls added is what its summary counts
abbrev pub Whole : Type 0
Whole =
    (edition : ℕ) (line bytes : List ℕ) (last : Summary) (b : InBursts edition line bytes last)
    → (room room' : List ℕ) (one : Result Summary Refused) → Receives edition line room one room' → 10 * (8 * length line / 66) ≤ length room
    → (answer_of one ≡ received last) × (room' ≡ at_start bytes room) × (plus_added (added_after_calls b.calls) b.reply.added ≡ added_in last)

-- "a handed-in state .. and given for nothing else": what a fresh state leads to is never refused with 10, and has its edition
abbrev pub NeverBad : Type 0
NeverBad =
    (edition : ℕ) (s : State) → begin_answer edition ≡ begun s → (ms : List Made) → Follow s ms
    → (bad_state (state_after_calls s ms) ≡ false) × ((state_after_calls s ms).edition ≡ edition)

-- "may be sent again with more room": before an accepted closing call, any call is accepted whose bytes keep the sum within the limit and that
-- is lent the room that is asked for. Its state is that after the accepted calls, whatever was refused between them.
abbrev pub Accepts : Type 0
Accepts =
    (edition : ℕ) (s : State) → begin_answer edition ≡ begun s
    → (ms : List Made) → Follow s ms → (state_after_calls s ms).closed ≡ false
    → (line room : ℕ) → length (line_after_calls ms) + line ≤ 825000 → room_for (state_after_calls s ms) line ≤ room
    → burst_verdict (state_after_calls s ms) line room ≡ accepted
