-- Demand 1 of encoding one vector, proved over the definitions. Assumes nothing.
use Rattle.refusals.proofs.Outcome.{outcome}
use Rattle.block.specs.Block.{encode_answer}
use Rattle.block.specs.Demand1.{Demand1OfEncode}

pub demand_1_of_encode : Demand1OfEncode
unfolding encode_answer
demand_1_of_encode ed vector answer e = outcome _ _ _ _ e
