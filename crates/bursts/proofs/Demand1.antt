-- Demand 1 of beginning, of a burst and of the closing call, proved over the definitions. Assumes nothing.
use Rattle.refusals.proofs.Outcome.{outcome}
use Rattle.judging.specs.Judging.{burst_verdict}
use Rattle.bursts.specs.Burst.{begin_answer, burst_call, close_call}
use Rattle.bursts.specs.Demand1.{Demand1OfBegin, Demand1OfBurst, Demand1OfClose}

pub demand_1_of_begin : Demand1OfBegin
unfolding begin_answer
demand_1_of_begin edition r p = outcome _ _ _ _ p

pub demand_1_of_burst : Demand1OfBurst
unfolding burst_call burst_verdict
demand_1_of_burst s line room r room' p = outcome _ _ _ _ (λ i. record { state = p.0 i; answer = p.1 i; added = p.2 i; room = p.3 i })

pub demand_1_of_close : Demand1OfClose
unfolding close_call burst_verdict
demand_1_of_close s room r room' p = outcome _ _ _ _ (λ i. record { state = p.0 i; answer = p.1 i; added = p.2 i; room = p.3 i })
