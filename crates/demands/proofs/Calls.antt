-- Demand 2 of the functions: what follows from the promises of `send` and `receive`. Assumes nothing.
use mathlib.Core.Path.{◌≡◌, refl, sym, ap, ◌∙◌, subst}
use mathlib.Core.List.{List, ◌++◌, flatten}
use Prim.Native.Nat.{ℕ, ◌+◌, ◌*◌, ◌/◌, ◌≤◌}
use native.Mathlib.Omega.{arith}
use lib.ListN.{length, take, drop, length-append, length-drop}
use lib.Seq.{take_at}
use borrow.Author.Tests.{le-ltb}
use Rattle.bits.specs.Bits.{stream_bit}
use Rattle.bits.proofs.Laws.{length_cut}
use Rattle.scrambler.specs.Scrambler.{mirror}
use Rattle.std.specs.Prelude.{Result, Ok, Err}
use Rattle.refusals.specs.declared.Refused.{Refused}
use Rattle.refusals.specs.First.{Verdict, accepted, refused, first, by_verdict}
use Rattle.block.specs.Block.{edition_of, vector_list}
use Rattle.block.proofs.Vectors.{length_vectors}
use Rattle.transmit.specs.Send.{sent_line, line_words, blocks_for}
use Rattle.sending.specs.Answer as Sending
use Rattle.sending.specs.Answer.{Sends}
use Rattle.sending.specs.declared.Sending.{Sending}
use Rattle.receiving.specs.Receive.{received_vectors}
use Rattle.receiving.specs.Answer as Receiving
use Rattle.receiving.specs.Answer.{Receives}
use Rattle.receiving.specs.declared.Summary.{Summary}
use Rattle.demands.specs.Words.{SendAccepts, Unbroken}
use Rattle.demands.specs.Demand2.{Returnable, faults, Demand2OfCalls}
use Rattle.demands.proofs.Accepted.{known, not_long}
use Rattle.demands.proofs.Demand2.{demand_2}

-- ---- what `send` left

-- it answers success only where it accepts
pub done_accepts : (edition : ℕ) (bytes : List ℕ) (start room : ℕ) (s : Sending) → Sending.answer_of (Ok s) ≡ Sending.send_answer edition bytes start room → SendAccepts edition bytes start room
unfolding Sending.send_answer
done_accepts edition bytes start room s e = go (first (Sending.send_checks edition bytes start room)) refl e
  where
    go : (v : Verdict) → first (Sending.send_checks edition bytes start room) ≡ v
        → Sending.sent s.state s.diagram s.replaced ≡ by_verdict v (Sending.sent_for (edition_of edition) bytes start) Sending.refused
        → first (Sending.send_checks edition bytes start room) ≡ accepted
    go accepted q e = q
    go (refused n p) q e = absurd (let z : ◌≡◌ {A = ℕ} 0 1 = cc in omega arith)

-- 33 line bytes for each group
pub length_sent : (edition : ℕ) (bytes : List ℕ) (start : ℕ) → length (sent_line (edition_of edition) bytes start) ≡ 33 * (length bytes / 40)
unfolding sent_line
length_sent edition bytes start = length_cut 8 (33 * (length bytes / 40)) (stream_bit 66 (line_words (mirror start) (blocks_for (edition_of edition) bytes)))

-- then the line stands at the start of the room
pub line_stands : (edition : ℕ) (bytes : List ℕ) (start : ℕ) (room room' : List ℕ) (s : Sending) → Sends edition bytes start room (Ok s) room'
    → take (33 * (length bytes / 40)) room' ≡ sent_line (edition_of edition) bytes start
unfolding Sending.send_room
line_stands edition bytes start room room' s sends =
    let line = sent_line (edition_of edition) bytes start in
    ap (take (33 * (length bytes / 40)))
    (sends.1
    ∙ ap (λ (v : Verdict). by_verdict v (line ++ drop (length line) room) (λ number place. room)) (done_accepts edition bytes start (length room) s sends.0))
    ∙ take_at line (drop (length line) room) (33 * (length bytes / 40)) (length_sent edition bytes start)

-- ---- what `receive` answers to it

-- a line of 825,000 bytes or fewer is received, where there is room for its vectors
pub received_too : (edition line out : ℕ) → edition ≤ 1 → line ≤ 825000 → 10 * (8 * line / 66) ≤ out → first (Receiving.receive_checks edition line out) ≡ accepted
unfolding first Receiving.receive_checks
received_too edition line out known short enough = rw (le-ltb 1 edition known, le-ltb 825000 line short, le-ltb out (10 * (8 * line / 66)) enough)

-- an answer with the document's values is the function's answer with these values
received_is : (r : Result Summary Refused) (s : Summary) → Receiving.answer_of r ≡ Receiving.received s → r ≡ Ok s
received_is (Ok x) s e =
    let same : x ≡ s = cc in
    ap Ok same
received_is (Err x) s e = cc

module _ (edition : ℕ) (bytes : List ℕ) (start : ℕ) (room room' : List ℕ) (s : Sending) (sends : Sends edition bytes start room (Ok s) room')
    (list : Returnable (edition_of edition) (vector_list bytes)) where
  -- sending accepted
  ok : SendAccepts edition bytes start (length room)
  ok = done_accepts edition bytes start (length room) s sends.0

  module _ (out out' : List ℕ) (r : Result Summary Refused) (receives : Receives edition (take (33 * (length bytes / 40)) room') out r out') (enough : length bytes ≤ length out) where
    -- so what was received is the line
    receives_line : Receives edition (sent_line (edition_of edition) bytes start) out r out'
    receives_line = subst (λ (line : List ℕ). Receives edition line out r out') (line_stands edition bytes start room room' s sends) receives

    -- neither refusal of receiving applies
    too : first (Receiving.receive_checks edition (length (sent_line (edition_of edition) bytes start)) (length out)) ≡ accepted
    too =
        let size = length_sent edition bytes start in
        received_too edition (length (sent_line (edition_of edition) bytes start)) (length out) (known edition bytes start (length room) ok)
        (omega (arith, size, not_long edition bytes start (length room) ok)) (subst (λ (n : ℕ). 10 * (8 * n / 66) ≤ length out) (sym size) (omega (arith, enough)))

    -- the answer
    answer_is : r ≡ Ok (Receiving.summary_of (edition_of edition) (sent_line (edition_of edition) bytes start))
    unfolding Receiving.receive_answer
    answer_is =
        received_is r (Receiving.summary_of (edition_of edition) (sent_line (edition_of edition) bytes start))
        (receives_line.0
        ∙ ap (λ (v : Verdict). by_verdict v (Receiving.received (Receiving.summary_of (edition_of edition) (sent_line (edition_of edition) bytes start))) Receiving.refused) too)

    -- its values
    values_are : Unbroken (length (vector_list bytes)) (Receiving.summary_of (edition_of edition) (sent_line (edition_of edition) bytes start))
    values_are = (demand_2 edition bytes start (length room) ok list).summary

    -- 64 vectors and more
    many : 640 ≤ length bytes
    many = omega (arith, list.long, length_vectors (length bytes / 10) bytes)

    -- as many bytes come back as were sent
    length_octets : length (flatten faults ++ drop 630 bytes) ≡ length bytes
    unfolding flatten
    length_octets = length-append (flatten faults) (drop 630 bytes) ∙ ap (λ (n : ℕ). 630 + n) (length-drop 630 bytes) ∙ omega (arith, many)

    -- the room
    room_is : out' ≡ flatten faults ++ drop 630 bytes ++ drop (length bytes) out
    unfolding Receiving.receive_room
    room_is =
        receives_line.1
        ∙ ap
        (λ (v : Verdict). by_verdict v
        (received_vectors (edition_of edition) (sent_line (edition_of edition) bytes start) ++ drop (length (received_vectors (edition_of edition) (sent_line (edition_of edition) bytes start))) out)
        (λ number place. out))
        too
        ∙ ap (λ (xs : List ℕ). xs ++ drop (length xs) out) (demand_2 edition bytes start (length room) ok list).octets
        ∙ ap (λ (n : ℕ). flatten faults ++ drop 630 bytes ++ drop n out) length_octets

-- demand 2 of the functions
pub demand_2_of_calls : Demand2OfCalls
demand_2_of_calls edition bytes start room room' s sends list out out' r receives enough =
    (answer_is edition bytes start room room' s sends list out out' r receives enough, values_are edition bytes start room room' s sends list out out' r receives enough, room_is edition bytes start room room' s sends list out out' r receives enough)
