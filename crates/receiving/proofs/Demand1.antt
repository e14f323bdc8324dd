-- Demand 1 of receiving, proved over the definitions. Assumes nothing.
use lib.ListN.{length}
use Rattle.refusals.proofs.Outcome.{outcome_in_room}
use Rattle.block.specs.Block.{edition_of}
use Rattle.receiving.specs.Receive.{received_vectors}
use Rattle.receiving.specs.Answer.{receive_checks, receive_answer, receive_room}
use Rattle.receiving.specs.Demand1.{Demand1OfReceive}

pub demand_1_of_receive : Demand1OfReceive
unfolding receive_answer receive_room
demand_1_of_receive edition line room r room' p =
    outcome_in_room (receive_checks edition (length line) (length room)) _ _ _ _ (received_vectors (edition_of edition) line) room p.0 p.1
