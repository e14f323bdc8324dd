-- Demand 1 of encoding one vector: "Encoding one vector by itself refuses a length other than 10 with 2, then 5; a vector of kind E is answered as
-- kind E, not refused."
use Rattle.std.specs.Prelude.{◌≡◌, not, List, [], ◌∷◌, ℕ, eqb, length}
use Rattle.refusals.specs.First.{check}
use Rattle.refusals.specs.Outcome.{Outcome}
use Rattle.block.specs.declared.Edition.{Edition}
use Rattle.block.specs.Block.{EncodeAnswer, carried, refused, encode_answer, carrier}
use Rattle.control_bytes.specs.Control.{control_check}

abbrev pub Demand1OfEncode : Type 0
Demand1OfEncode =
    (ed : Edition) (vector : List ℕ) (answer : EncodeAnswer) → answer ≡ encode_answer ed vector
    → Outcome (check 2 (not (eqb (length vector) 10)) ∷ control_check vector ∷ []) answer (carried (carrier ed vector)) refused
