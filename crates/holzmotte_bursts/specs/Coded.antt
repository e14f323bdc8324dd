-- A reviewer can skip this file. What a reply leaves in the state, the summary and the counters.
use Rattle.std.specs.Prelude.{ℕ, ◌+◌, ◌*◌, ◌^◌, ◌≤◌, ◌<◌, ◌≡◌, List, replicate}
use Rattle.receiving.specs.Answer.{ReceiveAnswer, received, refused}
use Rattle.counters.specs.Counters.{updated}
use Rattle.lent_words.specs.Words.{summary_with}
use Rattle.slices.specs.Slices.{counters_in, counters_with, receive_length, receive_words}
use Rattle.kept_state.specs.declared.State.{State}
use Rattle.bursts.specs.declared.Added.{Added}
use Rattle.stored.specs.Stored.{stored_in}

-- an answer fits: a summary and what was counted the lengths of their slices, a refusal's place the result
abbrev pub AnswerFits : ReceiveAnswer → (summary counters : ℕ) → Type 0
AnswerFits (received s) summary counters = (96 ≤ summary) × (32 ≤ counters)
AnswerFits (refused number place) summary counters = place < 2 ^ 56

-- by the answer
abbrev pub LeftBy : ReceiveAnswer → State → Added → (state summary counters : List ℕ) → (r : ℕ) (state' summary' counters' : List ℕ) → Type 0
LeftBy (received s) next added state summary counters r state' summary' counters' =
    (r ≡ 0) × (state' ≡ stored_in next state) × (summary' ≡ summary_with receive_length (receive_words (received s)) summary)
    × (counters' ≡ counters_with (updated (counters_in counters) added.counts added.handed) counters)
LeftBy (refused number place) next added state summary counters r state' summary' counters' =
    (r ≡ number + 256 * place) × (state' ≡ state) × (summary' ≡ summary_with receive_length (replicate receive_length 0) summary) × (counters' ≡ counters)
