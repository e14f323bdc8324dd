-- Document 01, 'Capture records' and the row of 'Refusal numbers' on writing a record; document 02, 7/13.
use Rattle.std.specs.Prelude.{ℕ, ◌+◌, ◌/◌, ◌%◌, ◌≡◌, List, [], ◌∷◌, ◌++◌, Bool, cond, length, drop, ltb, Result, Ok, Err}
use Rattle.refusals.specs.Number.{number_of}
use Rattle.refusals.specs.First.{Check, check, first, by_verdict}
use Rattle.records.specs.Record.{body_limit, old_body_limit, unknown_kind, not_groups}
use Rattle.refusals.specs.declared.Refusal.{Refusal}

-- 7/13: "A writer is told, by a yes or no, which limit to keep"; yes is the new one
abbrev pub limit_kept : (wide : Bool) → ℕ
limit_kept wide = cond wide body_limit old_body_limit

-- "writing one 7, 8, 2 (kind 1), 4, with place 0", into a room of so many bytes
unfoldable pub write_checks : (limit kind : ℕ) (body : List ℕ) (room : ℕ) → List Check
write_checks limit kind body room =
    check 7 (ltb limit (length body))
    ∷ check 8 (unknown_kind kind)
    ∷ check 2 (not_groups kind (length body))
    ∷ check 4 (ltb room (length body + 4))
    ∷ []

-- "Body length (2 bytes, little-endian), kind (2 bytes, little-endian ..), body"
abbrev pub record_of : (kind : ℕ) (body : List ℕ) → List ℕ
record_of kind body = (length body % 256) ∷ (length body / 256) ∷ (kind % 256) ∷ (kind / 256) ∷ body

-- what writing answers: how many bytes were written; or a refusal (number, place)
pub data WriteAnswer : Type 0 where
  wrote : (bytes : ℕ) → WriteAnswer
  unwritten : (number place : ℕ) → WriteAnswer

unfoldable pub write_answer : (limit kind : ℕ) (body room : List ℕ) → WriteAnswer
write_answer limit kind body room = by_verdict (first (write_checks limit kind body (length room))) (wrote (length body + 4)) unwritten

-- "Success writes exactly the stated bytes from the start of the lent room; the rest is unchanged"
unfoldable pub written_room : (limit kind : ℕ) (body room : List ℕ) → List ℕ
written_room limit kind body room =
    by_verdict (first (write_checks limit kind body (length room)))
    (record_of kind body ++ drop (length body + 4) room)
    (λ number place. room)

-- the document's number and values for each case of the writer's answer
abbrev pub write_answer_of : Result ℕ Refusal → WriteAnswer
write_answer_of (Ok n) = wrote n
write_answer_of (Err why) = unwritten (number_of why) 0

-- the promise: `write` was told which limit to keep and was lent `room` for the record, answered `r` and left `room'`
abbrev pub Writes : (kind : ℕ) (body : List ℕ) (wide : Bool) (room : List ℕ) (r : Result ℕ Refusal) (room' : List ℕ) → Type 0
Writes kind body wide room r room' =
    (write_answer_of r ≡ write_answer (limit_kept wide) kind body room) × (room' ≡ written_room (limit_kept wide) kind body room)
