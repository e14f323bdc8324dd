-- Demand 1 of the C boundary, proved over the definitions. Assumes nothing.
use mathlib.Core.Path.{◌≡◌, refl, ap, ◌∙◌}
use mathlib.Core.Bool.{Bool, true, false, ◌||◌}
use mathlib.Core.List.{List, ◌++◌}
use Prim.Native.Nat.{ℕ}
use lib.ListN.{length, drop, replicate}
use Rattle.refusals.specs.First.{Check, check, Verdict, accepted, refused, first, by_verdict}
use Rattle.refusals.proofs.Outcome.{outcome}
use Rattle.block.specs.Block.{edition_of}
use Rattle.transmit.specs.Send.{sent_line}
use Rattle.sending.specs.Answer as Sending
use Rattle.receiving.specs.Receive.{received_vectors}
use Rattle.receiving.specs.Answer as Receiving
use Rattle.lent_words.specs.Words.{one_more_after, too_short, summary_with}
use Rattle.slices.specs.Slices.{short_slice, receive_length, receive_words}
use Rattle.lent_words.proofs.Demand1.{through}
use Rattle.holzmotte.specs.Boundary.{send_verdict, send_words, send_result, send_line, send_summary, receive_verdict, receive_result, receive_vectors, receive_summary, receive_counters}
use Rattle.holzmotte.specs.Demand1.{Demand1OfSendThroughC, Demand1OfReceiveThroughC}

-- one more slice, by the same verdict
fourth : (v : Verdict) (came success : ℕ × List ℕ × List ℕ) (refusal : ℕ → ℕ → ℕ × List ℕ × List ℕ) (slice' written slice : List ℕ)
    → came ≡ by_verdict v success refusal → slice' ≡ by_verdict v written (λ number place. slice)
    → ◌≡◌ {A = ℕ × List ℕ × List ℕ × List ℕ} (came.0, came.1, came.2, slice')
    (by_verdict v (success.0, success.1, success.2, written) (λ number place. ((refusal number place).0, (refusal number place).1, (refusal number place).2, slice)))
fourth accepted came success refusal slice' written slice e f = λ i. ((e i).0, (e i).1, (e i).2, f i)
fourth (refused m q) came success refusal slice' written slice e f = λ i. ((e i).0, (e i).1, (e i).2, f i)

-- the summary's words by a verdict
send_words_lem : (v : Verdict) (answer : Sending.SendAnswer)
    → send_words (by_verdict v answer Sending.refused) ≡ by_verdict v (send_words answer) (λ number place. replicate 3 0)
send_words_lem accepted answer = refl
send_words_lem (refused n p) answer = refl

receive_words_lem : (v : Verdict) (answer : Receiving.ReceiveAnswer)
    → receive_words (by_verdict v answer Receiving.refused) ≡ by_verdict v (receive_words answer) (λ number place. replicate receive_length 0)
receive_words_lem accepted answer = refl
receive_words_lem (refused n p) answer = refl

-- sending
pub demand_1_of_send_through_c : Demand1OfSendThroughC
unfolding send_result send_line send_summary send_verdict Sending.send_room
demand_1_of_send_through_c edition bytes start room summary r room' summary' p =
    outcome _ _ _ _
    (through 3 4 short checks (send_words answer) summary (line ++ drop (length line) room) room
    (λ e. e) r room' summary' p.0 p.1
    (p.2 ∙ ap (λ (ws : List ℕ). summary_with 3 ws summary) (send_words_lem (first (one_more_after 4 (check 4 short) checks)) answer)))
  where
    checks : List Check
    checks = Sending.send_checks edition bytes start (length room)

    short : Bool
    short = too_short 8 3 (length summary)

    answer : Sending.SendAnswer
    answer = Sending.sent_for (edition_of edition) bytes start

    line : List ℕ
    line = sent_line (edition_of edition) bytes start

-- receiving
pub demand_1_of_receive_through_c : Demand1OfReceiveThroughC
unfolding receive_result receive_vectors receive_summary receive_counters receive_verdict Receiving.receive_room
demand_1_of_receive_through_c edition line room summary counters r room' summary' counters' p =
    outcome _ _ _ _
    (fourth (first (one_more_after 2 (check 4 short) checks)) (r, room', summary') _ _ counters' _ counters
    (through receive_length 2 short checks (receive_words answer) summary (vectors ++ drop (length vectors) room) room
    own r room' summary' p.0 p.1
    (p.2 ∙ ap (λ (ws : List ℕ). summary_with receive_length ws summary) (receive_words_lem (first (one_more_after 2 (check 4 short) checks)) answer)))
    p.3)
  where
    checks : List Check
    checks = Receiving.receive_checks edition (length line) (length room)

    short : Bool
    short = short_slice (length summary) (length counters)

    answer : Receiving.ReceiveAnswer
    answer = Receiving.received (Receiving.summary_of (edition_of edition) line)

    vectors : List ℕ
    vectors = received_vectors (edition_of edition) line

    left : (a b : Bool) → a || b ≡ false → a ≡ false
    left true b e = e
    left false b e = refl

    own : short ≡ false → too_short 8 receive_length (length summary) ≡ false
    own e = left (too_short 8 receive_length (length summary)) (too_short 4 8 (length counters)) e
