-- The C boundary, document 01, 'What the probe's library covers': sending and receiving over byte slices. Where a room, a summary or the
-- counters are a number here, it is the length of the slice.
use Rattle.std.specs.Prelude.{ℕ, ◌≡◌, List, [], ◌∷◌, length}
use Rattle.refusals.specs.First.{check, Verdict, first, by_verdict}
use Rattle.block.specs.Block.{edition_of}
use Rattle.sending.specs.Answer as Send
use Rattle.receiving.specs.Answer as Receive
use Rattle.counters.specs.Counters.{updated}
use Rattle.lent_words.specs.Words.{result_of, one_more_after, too_short, summary_with}
use Rattle.slices.specs.Slices.{counters_in, counters_with, receive_length, short_slice, receive_words}

-- ---- sending: refusals 13, 1, 2, 3, then 4 for the summary or the room, then 5

unfoldable pub send_verdict : (edition : ℕ) → List ℕ → (start room summary : ℕ) → Verdict
send_verdict edition vectors start room summary = first (one_more_after 4 (check 4 (too_short 8 3 summary)) (Send.send_checks edition vectors start room))

-- its three words: end state, end diagram state, replaced; zeros for a refusal
abbrev pub send_words : Send.SendAnswer → List ℕ
send_words (Send.sent state diagram replaced) = state ∷ diagram ∷ replaced ∷ []
send_words (Send.refused number place) = 0 ∷ 0 ∷ 0 ∷ []

unfoldable pub send_result : (edition : ℕ) → List ℕ → (start room summary : ℕ) → ℕ
send_result edition vectors start room summary = result_of (send_verdict edition vectors start room summary)

-- the room and the summary afterwards: a refusal leaves the room as it was
unfoldable pub send_line : (edition : ℕ) → List ℕ → ℕ → List ℕ → (summary : ℕ) → List ℕ
send_line edition vectors start room summary =
    by_verdict (send_verdict edition vectors start (length room) summary) (Send.send_room edition vectors start room) (λ number place. room)

unfoldable pub send_summary : (edition : ℕ) → List ℕ → (start room : ℕ) → List ℕ → List ℕ
send_summary edition vectors start room summary =
    summary_with 3 (send_words (by_verdict (send_verdict edition vectors start room (length summary)) (Send.sent_for (edition_of edition) vectors start) Send.refused)) summary

-- the promise: `holzmotte_send` was lent `room` and `summary`, returned `r` and left `room'` and `summary'`
abbrev pub SendsThroughC : (edition : ℕ) (vectors : List ℕ) (start : ℕ) (room summary : List ℕ) (r : ℕ) (room' summary' : List ℕ) → Type 0
SendsThroughC edition vectors start room summary r room' summary' =
    (r ≡ send_result edition vectors start (length room) (length summary))
    × (room' ≡ send_line edition vectors start room (length summary))
    × (summary' ≡ send_summary edition vectors start (length room) summary)

-- ---- receiving: refusals 13, 1, then 4 for the summary, the counters or the room

unfoldable pub receive_verdict : (edition line room summary counters : ℕ) → Verdict
receive_verdict edition line room summary counters = first (one_more_after 2 (check 4 (short_slice summary counters)) (Receive.receive_checks edition line room))

unfoldable pub receive_result : (edition line room summary counters : ℕ) → ℕ
receive_result edition line room summary counters = result_of (receive_verdict edition line room summary counters)

-- the room, the summary and the counters afterwards: a refusal leaves the room and the counters as they were
unfoldable pub receive_vectors : (edition : ℕ) (line room : List ℕ) → (summary counters : ℕ) → List ℕ
receive_vectors edition line room summary counters =
    by_verdict (receive_verdict edition (length line) (length room) summary counters) (Receive.receive_room edition line room) (λ number place. room)

unfoldable pub receive_summary : (edition : ℕ) → List ℕ → (room : ℕ) → List ℕ → (counters : ℕ) → List ℕ
receive_summary edition line room summary counters =
    summary_with receive_length
    (receive_words (by_verdict (receive_verdict edition (length line) room (length summary) counters) (Receive.received (Receive.summary_of (edition_of edition) line)) Receive.refused))
    summary

unfoldable pub receive_counters : (edition : ℕ) → List ℕ → (room summary : ℕ) → List ℕ → List ℕ
receive_counters edition line room summary counters =
    let s = Receive.summary_of (edition_of edition) line in
    by_verdict (receive_verdict edition (length line) room summary (length counters))
    (counters_with (updated (counters_in counters) s.counts s.handed) counters) (λ number place. counters)

-- the promise: `holzmotte_receive` was lent `room`, `summary` and `counters`, returned `r` and left `room'`, `summary'` and `counters'`
abbrev pub ReceivesThroughC : (edition : ℕ) (line room summary counters : List ℕ) (r : ℕ) (room' summary' counters' : List ℕ) → Type 0
ReceivesThroughC edition line room summary counters r room' summary' counters' =
    (r ≡ receive_result edition (length line) (length room) (length summary) (length counters))
    × (room' ≡ receive_vectors edition line room (length summary) (length counters))
    × (summary' ≡ receive_summary edition line (length room) summary (length counters))
    × (counters' ≡ receive_counters edition line (length room) (length summary) counters)
