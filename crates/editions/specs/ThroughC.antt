-- The same through C: "In the old one nothing changes" of result, room, summary and counters. A summary too short was refusal 4 after 1, 2 and 3 in
-- sending; a summary or counters too short were refusal 4 after 1 in receiving.
use Rattle.std.specs.Prelude.{ℕ, ◌≡◌, List, length}
use Rattle.refusals.specs.First.{check, Verdict, first, by_verdict}
use Rattle.sending.specs.Answer as Sending
use Rattle.receiving.specs.Answer as Receiving
use Rattle.counters.specs.Counters.{updated}
use Rattle.lent_words.specs.Words.{result_of, one_more_after, too_short, summary_with}
use Rattle.slices.specs.Slices.{counters_in, counters_with, receive_length, short_slice, receive_words}
use Rattle.holzmotte.specs.Boundary.{send_words, SendsThroughC, ReceivesThroughC}
use Rattle.editions.specs.Before.{send_checks_before, sent_before, send_room_before, receive_checks_before, summary_before, receive_room_before}

-- ---- `holzmotte_send` in edition 0 was lent `room` and `summary`, returned `r` and left `room'` and `summary'`

abbrev pub send_verdict_before : List ℕ → (start room summary : ℕ) → Verdict
send_verdict_before bytes start room summary = first (one_more_after 3 (check 4 (too_short 8 3 summary)) (send_checks_before bytes start room))

abbrev pub LeftBySending : Verdict → (bytes : List ℕ) (start : ℕ) (room summary : List ℕ) (r : ℕ) (room' summary' : List ℕ) → Type 0
LeftBySending v bytes start room summary r room' summary' =
    (r ≡ result_of v)
    × (room' ≡ by_verdict v (send_room_before bytes start room) (λ number place. room))
    × (summary' ≡ summary_with 3 (send_words (by_verdict v (sent_before bytes start) Sending.refused)) summary)

abbrev pub SendingUnchangedThroughC : Type 0
SendingUnchangedThroughC =
    (bytes : List ℕ) (start : ℕ) (room summary : List ℕ) (r : ℕ) (room' summary' : List ℕ) → SendsThroughC 0 bytes start room summary r room' summary'
    → LeftBySending (send_verdict_before bytes start (length room) (length summary)) bytes start room summary r room' summary'

-- ---- `holzmotte_receive` in edition 0 was lent `room`, `summary` and `counters`, returned `r` and left `room'`, `summary'` and `counters'`

abbrev pub receive_verdict_before : (line room summary counters : ℕ) → Verdict
receive_verdict_before line room summary counters = first (one_more_after 1 (check 4 (short_slice summary counters)) (receive_checks_before line room))

abbrev pub LeftByReceiving : Verdict → (line room summary counters : List ℕ) (r : ℕ) (room' summary' counters' : List ℕ) → Type 0
LeftByReceiving v line room summary counters r room' summary' counters' =
    (r ≡ result_of v)
    × (room' ≡ by_verdict v (receive_room_before line room) (λ number place. room))
    × (summary' ≡ summary_with receive_length (receive_words (by_verdict v (Receiving.received (summary_before line)) Receiving.refused)) summary)
    × (counters' ≡ by_verdict v (counters_with (updated (counters_in counters) (summary_before line).counts (summary_before line).handed) counters) (λ number place. counters))

abbrev pub ReceivingUnchangedThroughC : Type 0
ReceivingUnchangedThroughC =
    (line room summary counters : List ℕ) (r : ℕ) (room' summary' counters' : List ℕ) → ReceivesThroughC 0 line room summary counters r room' summary' counters'
    → LeftByReceiving (receive_verdict_before (length line) (length room) (length summary) (length counters)) line room summary counters r room' summary' counters'
