-- Demand 1 of receiving.
use Rattle.std.specs.Prelude.{ℕ, List, length, Result}
use Rattle.refusals.specs.Outcome.{OutcomeInRoom}
use Rattle.refusals.specs.declared.Refused.{Refused}
use Rattle.block.specs.Block.{edition_of}
use Rattle.receiving.specs.Receive.{received_vectors}
use Rattle.receiving.specs.Answer.{received, refused, receive_checks, summary_of, answer_of, Receives}
use Rattle.receiving.specs.declared.Summary.{Summary}

abbrev pub Demand1OfReceive : Type 0
Demand1OfReceive =
    (edition : ℕ) (line room : List ℕ) (r : Result Summary Refused) (room' : List ℕ) → Receives edition line room r room'
    → OutcomeInRoom (receive_checks edition (length line) (length room)) (answer_of r) room'
    (received (summary_of (edition_of edition) line)) (received_vectors (edition_of edition) line) room refused
