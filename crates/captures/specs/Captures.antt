-- Document 01, 'Capture records': "The body is the part of the file's bytes that starts after the head, handed on as it stands, with no copy"; here to
-- sending (records of kind 1) or to receiving (kind 2).
use Rattle.std.specs.Prelude.{ℕ, ◌+◌, ◌≡◌, cond, not, List, [], ◌∷◌, ◌++◌, length, take, drop, eqb, leb, Option, Some, None, Result}
use Rattle.std.specs.Borrow.{Bor}
use Rattle.refusals.specs.Refused.{by_result}
use Rattle.refusals.specs.declared.Refused.{Refused}
use Rattle.refusals.specs.First.{Check, check_at, first, by_verdict}
use Rattle.records.specs.Record as Record
use Rattle.sending.specs.Answer as Sending
use Rattle.receiving.specs.Answer as Receiving
use Rattle.sending.specs.declared.Sending as Sends
use Rattle.receiving.specs.declared.Summary.{Summary}

-- what a record comes to: something of its body; a plain end of records; a refusal's number and place
pub data Recorded (A : Type 0) : Type 0 where
  body : A → Recorded A
  end : Recorded A
  refused : (number place : ℕ) → Recorded A

-- "each by the reader, then 8 for the other kind", with the place of the head
unfoldable pub record_checks : (kind : ℕ) (file : List ℕ) (at : ℕ) → List Check
record_checks kind file at = Record.read_checks Record.body_limit file at ++ check_at 8 at (not (eqb (Record.two_at file (at + 2)) kind)) ∷ []

-- "the part of the file's bytes that starts after the head"
abbrev pub body_at : (file : List ℕ) (at : ℕ) → List ℕ
body_at file at = take (Record.two_at file at) (drop (at + 4) file)

-- the body of the record at a place, if it is of this kind; "No bytes left, or a place past them, is a plain end of records"
unfoldable pub body_of_kind : (kind : ℕ) (file : List ℕ) (at : ℕ) → Recorded (List ℕ)
body_of_kind kind file at = cond (leb (length file) at) end (by_verdict (first (record_checks kind file at)) (body (body_at file at)) refused)

-- the document's values for something of a record's body, and for none
abbrev pub recorded : {T A : Type 0} → (T → A) → Option T → Recorded A
recorded f (Some x) = body (f x)
recorded f None = end

-- the bytes of a part of the file
abbrev pub now_of : Bor (List ℕ) → List ℕ
now_of part = part.now

-- the document's number and values for each case of the code's answer
abbrev pub found_of : Result (Option (Bor (List ℕ))) Refused → Recorded (List ℕ)
found_of = by_result (recorded now_of) refused

-- what is answered to a body, and what is left of a room that is lent to it
abbrev pub answering : {A : Type 0} → (List ℕ → A) → Recorded (List ℕ) → Recorded A
answering f (body bytes) = body (f bytes)
answering f end = end
answering f (refused number place) = refused number place

abbrev pub leaving : (List ℕ → List ℕ) → (room : List ℕ) → Recorded (List ℕ) → List ℕ
leaving f room (body bytes) = f bytes
leaving f room end = room
leaving f room (refused number place) = room

-- the document's number and values for each case of the two answers
abbrev pub sent_of : Result (Option (Result Sends.Sending Refused)) Refused → Recorded Sending.SendAnswer
sent_of = by_result (recorded Sending.answer_of) refused

abbrev pub received_of : Result (Option (Result Summary Refused)) Refused → Recorded Receiving.ReceiveAnswer
received_of = by_result (recorded Receiving.answer_of) refused

-- 9/13: an edition is of the call and no field of a record; records are sent and received in the old one (number 0).
-- The promise: `send_record` was lent `room` for the line, answered `r` and left `room'`
abbrev pub SendsRecord : (file : List ℕ) (at start : ℕ) (room : List ℕ) (r : Result (Option (Result Sends.Sending Refused)) Refused) (room' : List ℕ) → Type 0
SendsRecord file at start room r room' =
    (sent_of r ≡ answering (λ vectors. Sending.send_answer 0 vectors start (length room)) (body_of_kind 1 file at))
    × (room' ≡ leaving (λ vectors. Sending.send_room 0 vectors start room) room (body_of_kind 1 file at))

-- the promise: `receive_record` was lent `room` for the vectors, answered `r` and left `room'`
abbrev pub ReceivesRecord : (file : List ℕ) (at : ℕ) (room : List ℕ) (r : Result (Option (Result Summary Refused)) Refused) (room' : List ℕ) → Type 0
ReceivesRecord file at room r room' =
    (received_of r ≡ answering (λ line. Receiving.receive_answer 0 line (length room)) (body_of_kind 2 file at))
    × (room' ≡ leaving (λ line. Receiving.receive_room 0 line room) room (body_of_kind 2 file at))
