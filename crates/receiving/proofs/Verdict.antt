-- The answer by the checks: refusal 13, refusal 1, refusal 4, or none. Assumes nothing.
use Prim.Native.Nat.{ℕ, ◌*◌, ◌/◌, ◌≤◌, ◌<◌}
use mathlib.Core.Path.{◌≡◌}
use mathlib.Core.List.{List, ◌++◌}
use lib.ListN.{length, drop}
use borrow.Author.Tests.{lt-ltb, le-ltb}
use Rattle.refusals.specs.First.{first}
use Rattle.block.specs.Block.{edition_of}
use Rattle.receiving.specs.Receive.{received_vectors}
use Rattle.receiving.specs.Answer.{ReceiveAnswer, refused, received, receive_checks, summary_of, receive_answer, receive_room}

-- an answer and a room as the definition has them
abbrev Answers : ReceiveAnswer → (edition : ℕ) (line room left : List ℕ) → Type 0
Answers a edition line room left = (a ≡ receive_answer edition line (length room)) × (left ≡ receive_room edition line room)

-- an edition that is not known is refusal 13
pub unknown : (edition : ℕ) (line room : List ℕ) → 1 < edition → Answers (refused 13 0) edition line room room
unfolding receive_answer receive_room receive_checks first
unknown edition line room h = (rw (lt-ltb 1 edition h), rw (lt-ltb 1 edition h))

module _ (edition : ℕ) (line room : List ℕ) (known : edition ≤ 1) where
  -- a line that is too long is refusal 1
  pub too_much : 825000 < length line → Answers (refused 1 0) edition line room room
  unfolding receive_answer receive_room receive_checks first
  too_much h = (rw (le-ltb 1 edition known, lt-ltb 825000 (length line) h), rw (le-ltb 1 edition known, lt-ltb 825000 (length line) h))

  module _ (short : length line ≤ 825000) where
    -- one whose room is too short is refusal 4
    pub no_room : length room < 10 * (8 * length line / 66) → Answers (refused 4 0) edition line room room
    unfolding receive_answer receive_room receive_checks first
    no_room h =
        (rw (le-ltb 1 edition known, le-ltb 825000 (length line) short, lt-ltb (length room) (10 * (8 * length line / 66)) h), rw (le-ltb 1 edition known, le-ltb 825000 (length line) short, lt-ltb (length room) (10 * (8 * length line / 66)) h))

    -- any other is received
    pub passes : 10 * (8 * length line / 66) ≤ length room
        → Answers (received (summary_of (edition_of edition) line)) edition line room (received_vectors (edition_of edition) line ++ drop (length (received_vectors (edition_of edition) line)) room)
    unfolding receive_answer receive_room receive_checks first
    passes h =
        (rw (le-ltb 1 edition known, le-ltb 825000 (length line) short, le-ltb (length room) (10 * (8 * length line / 66)) h), rw (le-ltb 1 edition known, le-ltb 825000 (length line) short, le-ltb (length room) (10 * (8 * length line / 66)) h))
