-- Bursts through C: document 01, 'What the probe's library covers': "A state or record that a later request passes through C is a lent slice
-- too; one too short is refusal 4, before any check that reads it." Summary and counters are as in receiving. Where a room, a summary or the
-- counters are a number here, it is the length of the slice.
use Rattle.std.specs.Prelude.{ℕ, ◌+◌, ◌*◌, ◌≡◌, List, [], ◌∷◌, length, replicate}
use Rattle.refusals.specs.First.{check, Verdict, first, by_verdict}
use Rattle.block.specs.Block.{edition_check}
use Rattle.counters.specs.Counters.{updated}
use Rattle.lent_words.specs.Words.{result_of, one_more_after, too_short, summary_with}
use Rattle.slices.specs.Slices.{counters_in, counters_with, receive_length, short_slice, receive_words}
use Rattle.judging.specs.Judging.{burst_checks}
use Rattle.bursts.specs.Burst.{state_fresh, Called, burst_call, close_call}
use Rattle.stored.specs.Stored.{state_length, state_in, stored_in}

-- ---- a fresh state: 13, then 4

unfoldable pub begin_verdict : (edition state : ℕ) → Verdict
begin_verdict edition state = first (edition_check edition ∷ check 4 (too_short 8 state_length state) ∷ [])

-- the promise: `holzmotte_begin` was lent `state`, returned `r` and left `state'`
abbrev pub BeginsThroughC : (edition : ℕ) (state : List ℕ) (r : ℕ) (state' : List ℕ) → Type 0
BeginsThroughC edition state r state' =
    (r ≡ result_of (begin_verdict edition (length state)))
    × (state' ≡ by_verdict (begin_verdict edition (length state)) (stored_in (state_fresh edition) state) (λ number place. state))

-- ---- a burst and the closing call: 4 for the state; then 13, 9, 10, 1; then 4 for the summary, the counters or the room

unfoldable pub verdict : (state : List ℕ) → (line room summary counters : ℕ) → Verdict
verdict state line room summary counters =
    first (check 4 (too_short 8 state_length (length state)) ∷ one_more_after 4 (check 4 (short_slice summary counters)) (burst_checks (state_in state) line room))

-- the result of a call, and what it leaves in the four slices
pub record Left : Type 0 where
  pub result : ℕ
  pub state : List ℕ
  pub vectors : List ℕ
  pub summary : List ℕ
  pub counters : List ℕ

-- by what the call comes to, where it is accepted
unfoldable pub leaves : (state summary counters : List ℕ) → Called → Left
leaves state summary counters c =
    record {
      result = 0;
      state = stored_in c.state state;
      vectors = c.room;
      summary = summary_with receive_length (receive_words c.answer) summary;
      counters = counters_with (updated (counters_in counters) c.added.counts c.added.handed) counters;
    }

-- a refusal clears the summary and changes nothing else
unfoldable pub spares : (state vectors summary counters : List ℕ) → (number place : ℕ) → Left
spares state vectors summary counters number place =
    record {
      result = number + 256 * place;
      state = state;
      vectors = vectors;
      summary = summary_with receive_length (replicate receive_length 0) summary;
      counters = counters;
    }

unfoldable pub burst_left : (state line vectors summary counters : List ℕ) → Left
burst_left state line vectors summary counters =
    by_verdict (verdict state (length line) (length vectors) (length summary) (length counters))
    (leaves state summary counters (burst_call (state_in state) line vectors)) (spares state vectors summary counters)

unfoldable pub close_left : (state vectors summary counters : List ℕ) → Left
close_left state vectors summary counters =
    by_verdict (verdict state 0 (length vectors) (length summary) (length counters))
    (leaves state summary counters (close_call (state_in state) vectors)) (spares state vectors summary counters)

-- the promise: a call that leaves `l` returned `r` and left these
abbrev pub Leaves : Left → (r : ℕ) (state' vectors' summary' counters' : List ℕ) → Type 0
Leaves l r state' vectors' summary' counters' =
    (r ≡ l.result) × (state' ≡ l.state) × (vectors' ≡ l.vectors) × (summary' ≡ l.summary) × (counters' ≡ l.counters)
