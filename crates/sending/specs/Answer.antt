-- What sending answers, and what it leaves in the lent room: document 01, 'Refusal numbers' and the last lines of 'Diagrams'.
use Rattle.std.specs.Prelude.{ℕ, ◌*◌, ◌/◌, ◌%◌, ◌^◌, List, [], ◌∷◌, ◌++◌, not, ◌≡◌, Result, length, drop, ltb, leb, eqb}
use Rattle.refusals.specs.Refused.{by_result}
use Rattle.refusals.specs.declared.Refused.{Refused}
use Rattle.refusals.specs.First.{Check, check, first, by_verdict}
use Rattle.scrambler.specs.Scrambler.{mirror}
use Rattle.block.specs.declared.Edition.{Edition}
use Rattle.block.specs.Block.{edition_of, edition_check, vector_list}
use Rattle.control_bytes.specs.Control.{control_check}
use Rattle.diagrams.specs.Diagram.{state_number}
use Rattle.diagrams.specs.declared.State.TheVariants.{Init}
use Rattle.transmit.specs.Send.{state_after, replaced, history_over, blocks_for, sent_line}
use Rattle.sending.specs.declared.Sending.{Sending}

-- "sending 1, 2, 3, 4, 5"; 9/13: "13, edition unknown, checked before all others"
unfoldable pub send_checks : ℕ → List ℕ → (start room : ℕ) → List Check
send_checks edition bytes start room =
    edition_check edition
    ∷ check 1 (ltb 1000000 (length bytes))
    ∷ check 2 (not (eqb (length bytes % 40) 0))
    ∷ check 3 (leb (2 ^ 58) start)
    ∷ check 4 (ltb room (33 * (length bytes / 40)))
    ∷ control_check bytes
    ∷ []

-- "its end state, end diagram state .. and number of replaced vectors"; or a refusal's number and place
pub data SendAnswer : Type 0 where
  sent : (endState diagram replaced : ℕ) → SendAnswer
  refused : (number place : ℕ) → SendAnswer

-- the answer of a list that is not refused
unfoldable pub sent_for : Edition → List ℕ → ℕ → SendAnswer
sent_for ed bytes start =
    sent (mirror (history_over (mirror start) (blocks_for ed bytes))) (state_number (state_after ed Init (vector_list bytes))) (replaced ed Init (vector_list bytes))

unfoldable pub send_answer : (edition : ℕ) → List ℕ → (start room : ℕ) → SendAnswer
send_answer edition bytes start room = by_verdict (first (send_checks edition bytes start room)) (sent_for (edition_of edition) bytes start) refused

-- "Success writes exactly the stated bytes from the start of the lent room; the rest is unchanged." A refusal changes nothing.
unfoldable pub send_room : (edition : ℕ) → List ℕ → ℕ → List ℕ → List ℕ
send_room edition bytes start room =
    by_verdict (first (send_checks edition bytes start (length room)))
    (sent_line (edition_of edition) bytes start ++ drop (length (sent_line (edition_of edition) bytes start)) room)
    (λ number place. room)

-- the document's number and values for each case of the answer
abbrev pub answer_of : Result Sending Refused → SendAnswer
answer_of = by_result (λ s. sent s.state s.diagram s.replaced) refused

-- the promise: `send` was lent `room` for the line, answered `r` and left `room'`
abbrev pub Sends : (edition : ℕ) (bytes : List ℕ) (start : ℕ) (room : List ℕ) (r : Result Sending Refused) (room' : List ℕ) → Type 0
Sends edition bytes start room r room' = (answer_of r ≡ send_answer edition bytes start (length room)) × (room' ≡ send_room edition bytes start room)
