-- The refusals that every call over a list of vectors begins with: document 02, "1, 2, 5 as in sending".
use Rattle.std.specs.Prelude.{ℕ, ◌%◌, not, List, [], ◌∷◌, ltb, eqb, length}
use Rattle.refusals.specs.First.{Check, check}
use Rattle.control_bytes.specs.Control.{control_check}

-- "1: more than 1,000,000 vector bytes"; "2: vector bytes not a multiple of 40"; "5: a control byte above 15"
abbrev pub vector_checks : List ℕ → List Check
vector_checks bytes = check 1 (ltb 1000000 (length bytes)) ∷ check 2 (not (eqb (length bytes % 40) 0)) ∷ control_check bytes ∷ []
