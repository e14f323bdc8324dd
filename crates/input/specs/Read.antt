-- What can be said of a program's reading. Which bytes a read puts into a buffer is the operating system's: the promises say that they are no
-- more than were asked for, that they are the next ones of a reader that says what it has left, and that there are reads for which the outcome
-- and the store are the definition's.
use Rattle.std.specs.Prelude.{ℕ, ◌+◌, ◌-◌, ◌^◌, ◌≤◌, ◌≡◌, List, [], length, take, Result, IfOk}
use Rattle.records.specs.Record.{body_limit, wanted_of}
use Rattle.gather.specs.Gather.{more, RecordRead, so_far, turn_of, Shows}
use Rattle.gather.specs.File.{gathered_after, InTurn}
use Rattle.gather.specs.declared.Step.{Step}
use Rattle.gather.specs.declared.Stop.{Stop}

-- how many bytes the first n of a buffer ask for: a head, and the body that it has
abbrev pub asked_by : (buffer : List ℕ) (n : ℕ) → ℕ
asked_by buffer n = 4 + wanted_of body_limit (take 4 (take n buffer))

-- the window of a record at the start of a buffer: a head and all that it asks for, or less; a failed read is none
abbrev pub WindowIn : {E : Type 0} (buffer : List ℕ) → Result ℕ E → Type 0
WindowIn buffer read = IfOk read (λ n. (n ≤ length buffer) × (n ≤ asked_by buffer n))

-- these reads were made in turn, and this is what they come to; and where more could come they are 2^64 - 1
pub record Gathers (kind : ℕ) (entry : List ℕ) (step : Result Step Stop) (exit : List ℕ) : Type 0 where
  pub reads : List RecordRead
  pub in_turn : InTurn body_limit kind (length entry) reads (more [])
  pub shows : Shows (gathered_after body_limit kind (length entry) reads (more [])) entry step exit
  pub many : (n : ℕ) → turn_of step ≡ so_far n → length reads ≡ 2 ^ 64 - 1
