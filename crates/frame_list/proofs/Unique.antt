-- "Any two answers satisfying it coincide": listing's promise has one answer, and one content of the lent list.
use Prim.Native.Nat.{ℕ}
use mathlib.Core.Path.{◌≡◌, sym, ap, ◌∙◌}
use mathlib.Core.List.{List}
use Rattle.std.specs.Prelude.{Result, Ok, Err}
use Rattle.refusals.specs.Number.{number_of}
use Rattle.refusals.specs.declared.Refused.{Refused}
use Rattle.refusals.proofs.Unique.{refused_injective}
use Rattle.frame_list.specs.Answer.{answer_of, Lists}

-- the document's number and values tell the answer
pub answer_injective : (a b : Result ℕ Refused) → answer_of a ≡ answer_of b → a ≡ b
answer_injective (Ok n) (Ok m) e = cc
answer_injective (Ok n) (Err r) e = cc
answer_injective (Err r) (Ok m) e = cc
answer_injective (Err r) (Err r') e =
    let n : number_of r.0 ≡ number_of r'.0 = cc in
    let p : r.1 ≡ r'.1 = cc in
    ap Err (refused_injective r r' n p)

pub list_unique : (vectors list : List ℕ) (a b : Result ℕ Refused) (after after' : List ℕ) → Lists vectors list a after → Lists vectors list b after' → (a ≡ b) × (after ≡ after')
list_unique vectors list a b after after' p q = (answer_injective a b (p.0 ∙ sym q.0), p.1 ∙ sym q.1)
