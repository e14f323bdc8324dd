-- Demand 1 of counting with an index, proved over the definitions. Assumes nothing.
use Rattle.refusals.proofs.Outcome.{outcome}
use lib.ListN.{length}
use Rattle.index_count.specs.Answer.{count_checks, count_answer}
use Rattle.index_count.specs.Demand1.{Demand1OfCount}

pub demand_1_of_count : Demand1OfCount
unfolding count_answer
demand_1_of_count bytes index a b r p = outcome (count_checks bytes (length index) a b) _ _ _ p
