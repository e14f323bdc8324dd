-- Demand 1 of bursts through C, proved over the definitions. Assumes nothing.
use Rattle.refusals.proofs.Outcome.{outcome}
use Rattle.holzmotte_bursts.specs.Boundary.{verdict, burst_left, close_left}
use Rattle.holzmotte_bursts.specs.Demand1.{Demand1OfBurstThroughC, Demand1OfCloseThroughC}

pub demand_1_of_burst_through_c : Demand1OfBurstThroughC
unfolding burst_left verdict
demand_1_of_burst_through_c state line vectors summary counters r state' vectors' summary' counters' p =
    outcome _ _ _ _ (λ i. record { result = p.0 i; state = p.1 i; vectors = p.2 i; summary = p.3 i; counters = p.4 i })

pub demand_1_of_close_through_c : Demand1OfCloseThroughC
unfolding close_left verdict
demand_1_of_close_through_c state vectors summary counters r state' vectors' summary' counters' p =
    outcome _ _ _ _ (λ i. record { result = p.0 i; state = p.1 i; vectors = p.2 i; summary = p.3 i; counters = p.4 i })
