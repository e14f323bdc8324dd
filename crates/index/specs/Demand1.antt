-- Demand 1 of building an index.
use Rattle.std.specs.Prelude.{ℕ, List, length, Result}
use Rattle.refusals.specs.Outcome.{Outcome}
use Rattle.refusals.specs.declared.Refused.{Refused}
use Rattle.block.specs.Block.{vector_list}
use Rattle.index.specs.Index.{index_for}
use Rattle.index.specs.Answer.{BuildAnswer, built, refused, build_checks, answer_of, Builds}

abbrev pub Demand1OfBuild : Type 0
Demand1OfBuild =
    (bytes index : List ℕ) (r : Result Unit Refused) (index' : List ℕ) → Builds bytes index r index'
    → Outcome {A = BuildAnswer × List ℕ} (build_checks bytes (length index)) (answer_of r, index') (built, index_for (vector_list bytes))
    (λ number place. (refused number place, index))
