-- Demand 1 of the entry points that hand a record's body on, in the old edition. A place at or past the end of the file is a plain end of records,
-- and leaves the room as it was; where no refusal of the record applies, they come to what sending or receiving answers to the body, which
-- starts at the head plus four, and leaves.
use Rattle.std.specs.Prelude.{ℕ, List, Option, Result, length}
use Rattle.records.specs.Demand1.{OutcomeAt}
use Rattle.sending.specs.Answer as Sending
use Rattle.receiving.specs.Answer as Receiving
use Rattle.captures.specs.Captures.{Recorded, body, end, refused, record_checks, body_at, sent_of, received_of, SendsRecord, ReceivesRecord}
use Rattle.refusals.specs.declared.Refused.{Refused}
use Rattle.sending.specs.declared.Sending as Sends
use Rattle.receiving.specs.declared.Summary.{Summary}

abbrev pub OfRecord : {A : Type 0} (kind : ℕ) (file : List ℕ) (place : ℕ) (room : List ℕ) (came : Recorded A × List ℕ) (handed : List ℕ → A × List ℕ) → Type 0
OfRecord {A} kind file place room came handed =
    OutcomeAt {A = Recorded A × List ℕ} file place (end, room) (record_checks kind file place) came
    (body (handed (body_at file place)).0, (handed (body_at file place)).1)
    (λ number at. (refused number at, room))

-- sending the vectors of a record
abbrev pub Demand1OfSendRecord : Type 0
Demand1OfSendRecord =
    (file : List ℕ) (place start : ℕ) (room : List ℕ) (r : Result (Option (Result Sends.Sending Refused)) Refused) (room' : List ℕ) → SendsRecord file place start room r room'
    → OfRecord {A = Sending.SendAnswer} 1 file place room (sent_of r, room') (λ vectors. (Sending.send_answer 0 vectors start (length room), Sending.send_room 0 vectors start room))

-- receiving the line of a record
abbrev pub Demand1OfReceiveRecord : Type 0
Demand1OfReceiveRecord =
    (file : List ℕ) (place : ℕ) (room : List ℕ) (r : Result (Option (Result Summary Refused)) Refused) (room' : List ℕ) → ReceivesRecord file place room r room'
    → OfRecord {A = Receiving.ReceiveAnswer} 2 file place room (received_of r, room') (λ line. (Receiving.receive_answer 0 line (length room), Receiving.receive_room 0 line room))
