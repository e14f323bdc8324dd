-- Demand 1 of finding an error vector with an index, proved over the definitions. Assumes nothing.
use Rattle.refusals.proofs.Outcome.{outcome}
use Rattle.index_search.specs.Answer.{find_checks, find_answer}
use Rattle.index_search.specs.Demand1.{Demand1OfFind}

pub demand_1_of_find : Demand1OfFind
unfolding find_answer
demand_1_of_find bytes index n r p = outcome (find_checks bytes index n) _ _ _ p
