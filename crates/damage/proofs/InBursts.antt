-- Demand 3 of a line that arrives in bursts. Assumes nothing.
use Prim.Native.Nat.{ℕ}
use Rattle.receiving.specs.Receive.{received_vectors}
use Rattle.bursts.proofs.Calls.{as_one}
use Rattle.damage.specs.Demand3.{Demand3}
use Rattle.damage.specs.InBursts.{Demand3InBursts}

-- where demand 3 holds, it holds in bursts
pub demand_3_in_bursts : (edition most : ℕ) → Demand3 edition most → Demand3InBursts edition most
unfolding received_vectors
demand_3_in_bursts edition most d bytes start room ok flips f joined last b = ((as_one edition _ joined last b).0, d bytes start room ok flips f)
