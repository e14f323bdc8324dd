-- Demand 1 of receiving with a lent record of counters.
use Rattle.std.specs.Prelude.{ℕ, List, ◌++◌, length, drop, Result}
use Rattle.refusals.specs.Outcome.{Outcome}
use Rattle.refusals.specs.declared.Refused.{Refused}
use Rattle.block.specs.Block.{edition_of}
use Rattle.receiving.specs.Receive.{received_vectors}
use Rattle.receiving.specs.Answer.{ReceiveAnswer, received, refused, receive_checks, summary_of, answer_of}
use Rattle.receiving.specs.declared.Summary.{Summary}
use Rattle.counters.specs.Counters.{updated, ReceivesCounting}
use Rattle.counters.specs.declared.Counters.{Counters}

abbrev pub Demand1OfReceiveCounting : Type 0
Demand1OfReceiveCounting =
    (edition : ℕ) (line room : List ℕ) (c : Counters) (r : Result Summary Refused) (room' : List ℕ) (c' : Counters) → ReceivesCounting edition line room c r room' c'
    → Outcome {A = ReceiveAnswer × List ℕ × Counters} (receive_checks edition (length line) (length room))
    (answer_of r, room', c') (
      received (summary_of (edition_of edition) line),
      received_vectors (edition_of edition) line ++ drop (length (received_vectors (edition_of edition) line)) room,
      updated c (summary_of (edition_of edition) line).counts (summary_of (edition_of edition) line).handed,
    )
    (λ number place. (refused number place, room, c))
