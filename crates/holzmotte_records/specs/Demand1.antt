-- Demand 1 of records through C. What a call comes to is its result and the lent slice: a result is 0, or a refusal's number and 256 times its
-- place; a refused read leaves zeros in the summary, a refused write the room as it was.
use Rattle.std.specs.Prelude.{ℕ, ◌+◌, ◌*◌, ◌%◌, ◌^◌, ◌≤◌, ◌≡◌, List, ◌++◌, length, drop}
use Rattle.refusals.specs.First.{first}
use Rattle.refusals.specs.Outcome.{Outcome, OutcomeInRoom}
use Rattle.records.specs.Record.{body_limit, read_at}
use Rattle.record_writing.specs.Writing.{record_of, write_checks}
use Rattle.lent_words.specs.Words.{result_of, word_bytes}
use Rattle.lent_words.specs.Demand1.{zeroed}
use Rattle.holzmotte_records.specs.Boundary.{reading_checks, reading_result, record_words, ReadsThroughC, limit_for, WritesThroughC}

-- reading
abbrev pub Demand1OfReadThroughC : Type 0
Demand1OfReadThroughC =
    (file : List ℕ) (place : ℕ) (summary : List ℕ) (r : ℕ) (summary' : List ℕ) → ReadsThroughC file place summary r summary'
    → Outcome {A = ℕ × List ℕ} (reading_checks file place (length summary)) (r, summary')
    (0, word_bytes 8 (record_words (read_at body_limit file place)) ++ drop 40 summary)
    (λ number at. ((number + 256 * at) % 2 ^ 64, zeroed 5 summary))

-- the 64 bits of a result lose nothing of a place in a file of up to 2^56 bytes
abbrev pub WholePlace : Type 0
WholePlace = (file : List ℕ) (place summary : ℕ) → length file ≤ 2 ^ 56 → reading_result file place summary ≡ result_of (first (reading_checks file place summary))

-- writing
abbrev pub Demand1OfWriteThroughC : Type 0
Demand1OfWriteThroughC =
    (kind : ℕ) (body : List ℕ) (wide : ℕ) (room : List ℕ) (r : ℕ) (room' : List ℕ) → WritesThroughC kind body wide room r room'
    → OutcomeInRoom (write_checks (limit_for wide) kind body (length room)) r room' 0 (record_of kind body) room (λ number place. number + 256 * place)
