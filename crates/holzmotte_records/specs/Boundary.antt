-- The C boundary of capture records, document 02, 7/13: reading one and writing one over byte slices.
use Rattle.std.specs.Prelude.{ℕ, ◌%◌, ◌^◌, ◌≡◌, cond, List, [], ◌∷◌, ◌++◌, length, replicate, leb}
use Rattle.refusals.specs.First.{Check, check, first}
use Rattle.records.specs.Record.{body_limit, read_checks, Answer, whole, end, refused, read_at}
use Rattle.record_writing.specs.Writing.{limit_kept, write_checks, written_room}
use Rattle.lent_words.specs.Words.{result_of, too_short, summary_with, yes}

-- ---- reading: 6 (head), 7, 8, 6 (body), 2 (kind 1 only), all with the head's place, then 4 for the summary

-- "No bytes left, or a place past them, is a plain end of records": of the reader's checks none is looked at
unfoldable pub reading_checks : (file : List ℕ) (place summary : ℕ) → List Check
reading_checks file place summary = cond (leb (length file) place) [] (read_checks body_limit file place) ++ check 4 (too_short 8 5 summary) ∷ []

-- a result has 64 bits, which hold the place in any file of up to 2^56 bytes
unfoldable pub reading_result : (file : List ℕ) (place summary : ℕ) → ℕ
reading_result file place summary = result_of (first (reading_checks file place summary)) % 2 ^ 64

-- its five words: 1, the kind, the start and the length of the body, the place after the record; zeros at a plain end and for a refusal
abbrev pub record_words : Answer → List ℕ
record_words (whole kind start len next) = 1 ∷ kind ∷ start ∷ len ∷ next ∷ []
record_words end = replicate 5 0
record_words (refused number place) = replicate 5 0

-- the promise: `holzmotte_read_record` was lent `summary`, returned `r` and left `summary'`
abbrev pub ReadsThroughC : (file : List ℕ) (place : ℕ) (summary : List ℕ) (r : ℕ) (summary' : List ℕ) → Type 0
ReadsThroughC file place summary r summary' =
    (r ≡ reading_result file place (length summary)) × (summary' ≡ summary_with 5 (record_words (read_at body_limit file place)) summary)

-- ---- writing: 7, 8, 2 (kind 1), 4, with place 0

-- by the yes or no of the call
abbrev pub limit_for : (wide : ℕ) → ℕ
limit_for wide = limit_kept (yes wide)

-- the promise: `holzmotte_write_record` was lent `room`, returned `r` and left `room'`
abbrev pub WritesThroughC : (kind : ℕ) (body : List ℕ) (wide : ℕ) (room : List ℕ) (r : ℕ) (room' : List ℕ) → Type 0
WritesThroughC kind body wide room r room' =
    (r ≡ result_of (first (write_checks (limit_for wide) kind body (length room)))) × (room' ≡ written_room (limit_for wide) kind body room)
