-- Demand 2 of a line that arrives in bursts. Assumes nothing.
use mathlib.Core.Path.{sym, ◌∙◌, subst}
use lib.ListN.{length}
use Rattle.bursts.proofs.Calls.{as_one}
use Rattle.block.specs.Block.{vector_list}
use Rattle.demands.specs.Words.{Unbroken}
use Rattle.demands.specs.InBursts.{Demand2InBursts}
use Rattle.demands.proofs.Demand2.{demand_2}

pub demand_2_in_bursts : Demand2InBursts
demand_2_in_bursts edition bytes start room ok list joined last b =
    let one = as_one edition _ joined last b in
    let d = demand_2 edition bytes start room ok list in
    (one.0 ∙ d.octets, subst (Unbroken (length (vector_list bytes))) (sym one.1) d.summary)
