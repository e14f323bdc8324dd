-- Demand 1 of sending, proved over the definitions. Assumes nothing.
use lib.ListN.{length}
use Rattle.refusals.proofs.Outcome.{outcome_in_room}
use Rattle.block.specs.Block.{edition_of}
use Rattle.transmit.specs.Send.{sent_line}
use Rattle.sending.specs.Answer.{send_checks, send_answer, send_room}
use Rattle.sending.specs.Demand1.{Demand1OfSend}

pub demand_1_of_send : Demand1OfSend
unfolding send_answer send_room
demand_1_of_send edition bytes start room r room' p =
    outcome_in_room (send_checks edition bytes start (length room)) _ _ _ _ (sent_line (edition_of edition) bytes start) room p.0 p.1
