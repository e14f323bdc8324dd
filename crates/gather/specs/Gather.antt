-- Document 01, 'The two programs': what a program gathers from its records.
-- "Records are judged in turn, each by the reader, then 8 for the other kind, then 1 for more than that".
use Rattle.std.specs.Prelude.{ℕ, ◌+◌, ◌≡◌, List, [], ◌∷◌, ◌++◌, not, length, take, ltb, eqb, Result, Ok, Err}
use Rattle.refusals.specs.Number.{number_of}
use Rattle.refusals.specs.First.{check, first, by_verdict}
use Rattle.putting.specs.Overlaid.{overlaid}
use Rattle.records.specs.Record.{Answer, whole, end, refused, read_at, body_of}
use Rattle.gather.specs.declared.Step.{Step}
use Rattle.gather.specs.declared.Step.TheVariants as Case
use Rattle.gather.specs.declared.Stop.{Stop}
use Rattle.gather.specs.declared.Stop.TheVariants as Why

-- where the gathering stands: these bytes so far; the records ended, with these bytes; a refusal of that number, after these bytes; a read
-- failed, after these bytes
pub data Gathered : Type 0 where
  more : (bytes : List ℕ) → Gathered
  done : (bytes : List ℕ) → Gathered
  stop : (number : ℕ) (bytes : List ℕ) → Gathered
  failed : (bytes : List ℕ) → Gathered

-- from the bytes so far on; after an end, a refusal or a failed read nothing changes
abbrev pub go_on : (List ℕ → Gathered) → Gathered → Gathered
go_on on (more bytes) = on bytes
go_on on (done bytes) = done bytes
go_on on (stop number bytes) = stop number bytes
go_on on (failed bytes) = failed bytes

-- by what the reader finds in s: a record of the program's kind adds its body, where that gives at most so many bytes
abbrev pub judged : (kind most : ℕ) (s bytes : List ℕ) → Answer → Gathered
judged kind most s bytes end = done bytes
judged kind most s bytes (refused number place) = stop number bytes
judged kind most s bytes (whole k start len next) =
    by_verdict (first (check 8 (not (eqb k kind)) ∷ check 1 (ltb most (length bytes + len)) ∷ []))
    (more (bytes ++ body_of s start len))
    (λ number place. stop number bytes)

-- one record more, the one whose head is at a place of s
abbrev pub next : (limit kind most : ℕ) (s : List ℕ) (at : ℕ) → Gathered → Gathered
next limit kind most s at = go_on (λ bytes. judged kind most s bytes (read_at limit s at))

-- what a program reads at a time: the bytes of one record, as far as the input has them; or the read fails
pub data RecordRead : Type 0 where
  window : (bytes : List ℕ) → RecordRead
  failure : RecordRead

-- one read more
abbrev pub next_read : (limit kind most : ℕ) → RecordRead → Gathered → Gathered
next_read limit kind most (window bytes) = next limit kind most bytes 0
next_read limit kind most failure = go_on failed

-- what was read, by what reading into the buffer came to
abbrev pub read_of : {E : Type 0} → Result ℕ E → (buffer : List ℕ) → RecordRead
read_of (Ok n) buffer = window (take n buffer)
read_of (Err e) buffer = failure

-- how many bytes were read
abbrev pub count_of : {E : Type 0} → Result ℕ E → ℕ
count_of (Ok n) = n
count_of (Err e) = 0

-- all bytes that are gathered
abbrev pub bytes_in : Gathered → List ℕ
bytes_in (more bytes) = bytes
bytes_in (done bytes) = bytes
bytes_in (stop number bytes) = bytes
bytes_in (failed bytes) = bytes

-- a step's case with its number: how many bytes are gathered so far; how many in all, where the records ended; which refusal; a read failed
pub data Turn : Type 0 where
  so_far : ℕ → Turn
  in_all : ℕ → Turn
  refusal : ℕ → Turn
  input_failed : Turn

abbrev pub turn_in : Gathered → Turn
turn_in (more bytes) = so_far (length bytes)
turn_in (done bytes) = in_all (length bytes)
turn_in (stop number bytes) = refusal number
turn_in (failed bytes) = input_failed

-- the document's number for each case of the code's answer
abbrev pub turn_of : Result Step Stop → Turn
turn_of (Ok (Case.More n)) = so_far n
turn_of (Ok (Case.Done n)) = in_all n
turn_of (Err (Why.Refused why)) = refusal (number_of why)
turn_of (Err Why.Failed) = input_failed

-- where the gathering stands so: the step says it, and the store holds all bytes from its start on
abbrev pub Shows : Gathered → (entry : List ℕ) → Result Step Stop → (exit : List ℕ) → Type 0
Shows g entry step exit = (turn_of step ≡ turn_in g) × (exit ≡ overlaid 0 (bytes_in g) entry)
