-- Document 02, 9/13: "In the old one nothing changes": on all inputs the same answer, and the same bytes in the lent room.
use Rattle.std.specs.Prelude.{ℕ, ◌≡◌, List, Result, length}
use Rattle.refusals.specs.declared.Refused.{Refused}
use Rattle.sending.specs.Answer as Sending
use Rattle.sending.specs.declared.Sending.{Sending}
use Rattle.receiving.specs.Answer as Receiving
use Rattle.receiving.specs.declared.Summary.{Summary}
use Rattle.editions.specs.Before.{send_answer_before, send_room_before, receive_answer_before, receive_room_before}

-- `send` in edition 0 was lent `room`, answered `r` and left `room'`
abbrev pub SendingUnchanged : Type 0
SendingUnchanged =
    (bytes : List ℕ) (start : ℕ) (room : List ℕ) (r : Result Sending Refused) (room' : List ℕ) → Sending.Sends 0 bytes start room r room'
    → (Sending.answer_of r ≡ send_answer_before bytes start (length room)) × (room' ≡ send_room_before bytes start room)

-- `receive` in edition 0 was lent `room`, answered `r` and left `room'`
abbrev pub ReceivingUnchanged : Type 0
ReceivingUnchanged =
    (line room : List ℕ) (r : Result Summary Refused) (room' : List ℕ) → Receiving.Receives 0 line room r room'
    → (Receiving.answer_of r ≡ receive_answer_before line (length room)) × (room' ≡ receive_room_before line room)
