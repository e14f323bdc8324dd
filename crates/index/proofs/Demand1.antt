-- Demand 1 of building an index, proved over the definitions. Assumes nothing.
use Prim.Native.Nat.{ℕ}
use mathlib.Core.Path.{ap₂, ◌∙◌}
use mathlib.Core.List.{List}
use lib.ListN.{length}
use Rattle.refusals.specs.First.{first}
use Rattle.refusals.proofs.Outcome.{outcome, both}
use Rattle.block.specs.Block.{vector_list}
use Rattle.index.specs.Index.{index_for}
use Rattle.index.specs.Answer.{BuildAnswer, built, refused, build_checks, build_answer, index_after}
use Rattle.index.specs.Demand1.{Demand1OfBuild}

pub demand_1_of_build : Demand1OfBuild
unfolding build_answer index_after
demand_1_of_build bytes index r index' p =
    outcome (build_checks bytes (length index)) _ _ _
    (ap₂ (λ (a : BuildAnswer) (b : List ℕ). (a, b)) p.0 p.1
    ∙ both (first (build_checks bytes (length index))) built (index_for (vector_list bytes)) refused (λ number place. index))
