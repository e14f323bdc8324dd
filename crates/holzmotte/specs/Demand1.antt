-- Demand 1 of the C boundary. What a call comes to is its result and the lent slices: a result is 0, or a refusal's number and 256 times
-- its place; a refusal leaves zeros in the summary, and the room and the counters as they were. A summary too short for its words is
-- refusal 4, after 13, 1, 2 and 3 in sending, after 13 and 1 in receiving; so are counters too short.
use Rattle.std.specs.Prelude.{ℕ, ◌+◌, ◌*◌, List, ◌++◌, length, drop}
use Rattle.refusals.specs.First.{check}
use Rattle.refusals.specs.Outcome.{Outcome}
use Rattle.block.specs.Block.{edition_of}
use Rattle.transmit.specs.Send.{sent_line}
use Rattle.sending.specs.Answer as Sending
use Rattle.receiving.specs.Receive.{received_vectors}
use Rattle.receiving.specs.Answer as Receiving
use Rattle.counters.specs.Counters.{updated}
use Rattle.lent_words.specs.Words.{one_more_after, word_bytes, too_short}
use Rattle.slices.specs.Slices.{counters_in, counters_with, receive_length, short_slice, receive_words}
use Rattle.lent_words.specs.Demand1.{zeroed}
use Rattle.holzmotte.specs.Boundary.{send_words, SendsThroughC, ReceivesThroughC}

-- sending
abbrev pub Demand1OfSendThroughC : Type 0
Demand1OfSendThroughC =
    (edition : ℕ) (bytes : List ℕ) (start : ℕ) (room summary : List ℕ) (r : ℕ) (room' summary' : List ℕ)
    → SendsThroughC edition bytes start room summary r room' summary'
    → Outcome {A = ℕ × List ℕ × List ℕ} (one_more_after 4 (check 4 (too_short 8 3 (length summary))) (Sending.send_checks edition bytes start (length room)))
    (r, room', summary') (
      0,
      sent_line (edition_of edition) bytes start ++ drop (length (sent_line (edition_of edition) bytes start)) room,
      word_bytes 8 (send_words (Sending.sent_for (edition_of edition) bytes start)) ++ drop 24 summary,
    )
    (λ number place. (number + 256 * place, room, zeroed 3 summary))

-- receiving
abbrev pub Demand1OfReceiveThroughC : Type 0
Demand1OfReceiveThroughC =
    (edition : ℕ) (line room summary counters : List ℕ) (r : ℕ) (room' summary' counters' : List ℕ)
    → ReceivesThroughC edition line room summary counters r room' summary' counters'
    → Outcome {A = ℕ × List ℕ × List ℕ × List ℕ}
    (one_more_after 2 (check 4 (short_slice (length summary) (length counters))) (Receiving.receive_checks edition (length line) (length room)))
    (r, room', summary', counters') (
      0,
      received_vectors (edition_of edition) line ++ drop (length (received_vectors (edition_of edition) line)) room,
      word_bytes 8 (receive_words (Receiving.received (Receiving.summary_of (edition_of edition) line))) ++ drop (8 * receive_length) summary,
      counters_with (updated (counters_in counters) (Receiving.summary_of (edition_of edition) line).counts (Receiving.summary_of (edition_of edition) line).handed) counters,
    )
    (λ number place. (number + 256 * place, room, zeroed receive_length summary, counters))
