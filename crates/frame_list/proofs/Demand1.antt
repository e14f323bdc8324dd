-- Demand 1 of listing frames, proved over the definitions. Assumes nothing.
use lib.ListN.{length}
use Rattle.refusals.proofs.Outcome.{outcome_in_room}
use Rattle.frame_list.specs.Answer.{entries, frames_in, list_checks, list_answer, list_after}
use Rattle.frame_list.specs.Demand1.{Demand1OfList}

pub demand_1_of_list : Demand1OfList
unfolding list_answer list_after
demand_1_of_list bytes list r list' p =
    outcome_in_room (list_checks bytes (length list)) _ _ _ _ (entries (frames_in bytes)) list p.0 p.1
