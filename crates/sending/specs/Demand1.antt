-- Demand 1 of sending.
use Rattle.std.specs.Prelude.{ℕ, List, Result, length}
use Rattle.refusals.specs.Outcome.{OutcomeInRoom}
use Rattle.refusals.specs.declared.Refused.{Refused}
use Rattle.block.specs.Block.{edition_of}
use Rattle.transmit.specs.Send.{sent_line}
use Rattle.sending.specs.Answer.{refused, send_checks, sent_for, answer_of, Sends}
use Rattle.sending.specs.declared.Sending.{Sending}

abbrev pub Demand1OfSend : Type 0
Demand1OfSend =
    (edition : ℕ) (bytes : List ℕ) (start : ℕ) (room : List ℕ) (r : Result Sending Refused) (room' : List ℕ) → Sends edition bytes start room r room'
    → OutcomeInRoom (send_checks edition bytes start (length room)) (answer_of r) room'
    (sent_for (edition_of edition) bytes start) (sent_line (edition_of edition) bytes start) room refused
