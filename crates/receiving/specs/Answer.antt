-- What receiving answers, and what it leaves in the lent room: document 01, 'Refusal numbers' and the last lines of 'Diagrams'.
use Rattle.std.specs.Prelude.{ℕ, ◌*◌, ◌/◌, ◌≡◌, List, [], ◌∷◌, ◌++◌, length, drop, ltb, Result}
use Rattle.refusals.specs.First.{Check, check, first, by_verdict}
use Rattle.refusals.specs.Refused.{by_result}
use Rattle.refusals.specs.declared.Refused.{Refused}
use Rattle.block.specs.declared.Edition.{Edition}
use Rattle.block.specs.Block.{edition_of, edition_check}
use Rattle.receiving.specs.Receive.{judged_alone, run_of, judged_of, counts_of, handed_of, vectors_of, received_vectors}
use Rattle.receiving.specs.declared.Summary.{Summary}

-- "receiving 1, 4"; 9/13: "13, edition unknown, checked before all others"
unfoldable pub receive_checks : (edition line room : ℕ) → List Check
receive_checks edition line room = edition_check edition ∷ check 1 (ltb 825000 line) ∷ check 4 (ltb room (10 * (8 * line / 66))) ∷ []

-- "Receiving returns tested, slips, locked, high and the number of vectors", and by document 02 the reasons (1/13), the flag of the last vector
-- (6/13), begun and replaced (3/13): the summary of a line that is not refused
unfoldable pub summary_of : Edition → List ℕ → Summary
summary_of ed line =
    record {
      counts = counts_of (run_of ed line).tested;
      locked = (run_of ed line).end.link.lock.locked;
      high = (run_of ed line).end.link.rate.high;
      vectors = length (vectors_of ed line);
      alone = judged_alone (judged_of ed line);
      handed = handed_of (judged_of ed line);
    }

-- a summary; or a refusal's number and place
pub data ReceiveAnswer : Type 0 where
  received : Summary → ReceiveAnswer
  refused : (number place : ℕ) → ReceiveAnswer

unfoldable pub receive_answer : (edition : ℕ) → List ℕ → (room : ℕ) → ReceiveAnswer
receive_answer edition line room = by_verdict (first (receive_checks edition (length line) room)) (received (summary_of (edition_of edition) line)) refused

-- "Success writes exactly the stated bytes from the start of the lent room; the rest is unchanged." A refusal changes nothing.
unfoldable pub receive_room : (edition : ℕ) (line room : List ℕ) → List ℕ
receive_room edition line room =
    by_verdict (first (receive_checks edition (length line) (length room)))
    (received_vectors (edition_of edition) line ++ drop (length (received_vectors (edition_of edition) line)) room)
    (λ number place. room)

-- the document's number and values for each case of the answer
abbrev pub answer_of : Result Summary Refused → ReceiveAnswer
answer_of = by_result received refused

-- the promise: `receive` was lent `room` for the vectors, answered `r` and left `room'`
abbrev pub Receives : (edition : ℕ) (line room : List ℕ) (r : Result Summary Refused) (room' : List ℕ) → Type 0
Receives edition line room r room' = (answer_of r ≡ receive_answer edition line (length room)) × (room' ≡ receive_room edition line room)
