-- Demand 1 of bursts through C: a state too short comes first, a summary or counters too short with the room.
use Rattle.std.specs.Prelude.{ℕ, List, ◌∷◌, length}
use Rattle.refusals.specs.First.{check}
use Rattle.refusals.specs.Outcome.{Outcome}
use Rattle.lent_words.specs.Words.{one_more_after, too_short}
use Rattle.slices.specs.Slices.{short_slice}
use Rattle.judging.specs.Judging.{burst_checks}
use Rattle.bursts.specs.Burst.{burst_call, close_call}
use Rattle.stored.specs.Stored.{state_length, state_in}
use Rattle.holzmotte_bursts.specs.Boundary.{Left, leaves, spares, burst_left, close_left, Leaves}

-- a burst
abbrev pub Demand1OfBurstThroughC : Type 0
Demand1OfBurstThroughC =
    (state line vectors summary counters : List ℕ) (r : ℕ) (state' vectors' summary' counters' : List ℕ)
    → Leaves (burst_left state line vectors summary counters) r state' vectors' summary' counters'
    → Outcome {A = Left}
    (check 4 (too_short 8 state_length (length state)) ∷ one_more_after 4 (check 4 (short_slice (length summary) (length counters))) (burst_checks (state_in state) (length line) (length vectors)))
    (record { result = r; state = state'; vectors = vectors'; summary = summary'; counters = counters' })
    (leaves state summary counters (burst_call (state_in state) line vectors)) (spares state vectors summary counters)

-- the closing call
abbrev pub Demand1OfCloseThroughC : Type 0
Demand1OfCloseThroughC =
    (state vectors summary counters : List ℕ) (r : ℕ) (state' vectors' summary' counters' : List ℕ)
    → Leaves (close_left state vectors summary counters) r state' vectors' summary' counters'
    → Outcome {A = Left}
    (check 4 (too_short 8 state_length (length state)) ∷ one_more_after 4 (check 4 (short_slice (length summary) (length counters))) (burst_checks (state_in state) 0 (length vectors)))
    (record { result = r; state = state'; vectors = vectors'; summary = summary'; counters = counters' })
    (leaves state summary counters (close_call (state_in state) vectors)) (spares state vectors summary counters)
