-- Demand 1 of beginning, of a burst and of the closing call (document 02, 2/13): what a call comes to is the first refusal of its list that applies,
-- which changes nothing, or else what success gives.
use Rattle.std.specs.Prelude.{ℕ, List, [], ◌∷◌, length, Result}
use Rattle.refusals.specs.Outcome.{Outcome}
use Rattle.refusals.specs.declared.Refused.{Refused}
use Rattle.block.specs.Block.{edition_check}
use Rattle.receiving.specs.Answer.{answer_of}
use Rattle.kept_state.specs.declared.State.{State}
use Rattle.bursts.specs.declared.Reply.{Reply}
use Rattle.judging.specs.Judging.{burst_checks}
use Rattle.bursts.specs.Burst.{BeginAnswer, begun, refused, begun_of, Begins, state_fresh, Called, refuses, burst_done, close_done, burst_call, close_call, Replies}

-- beginning
abbrev pub Demand1OfBegin : Type 0
Demand1OfBegin = (edition : ℕ) (r : Result State Refused) → Begins edition r → Outcome {A = BeginAnswer} (edition_check edition ∷ []) (begun_of r) (begun (state_fresh edition)) refused

-- what a call handed back, and what it left in the room
abbrev pub called_of : Reply → List ℕ → Called
called_of r room' = record { state = r.state; answer = answer_of r.answer; added = r.added; room = room' }

-- a burst
abbrev pub Demand1OfBurst : Type 0
Demand1OfBurst =
    (s : State) (line room : List ℕ) (r : Reply) (room' : List ℕ) → Replies (burst_call s line room) r room'
    → Outcome {A = Called} (burst_checks s (length line) (length room)) (called_of r room') (burst_done s line room) (refuses s room)

-- the closing call
abbrev pub Demand1OfClose : Type 0
Demand1OfClose =
    (s : State) (room : List ℕ) (r : Reply) (room' : List ℕ) → Replies (close_call s room) r room'
    → Outcome {A = Called} (burst_checks s 0 (length room)) (called_of r room') (close_done s room) (refuses s room)
