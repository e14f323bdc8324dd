-- "Any two answers satisfying it coincide": finding's promise has one answer.
use Prim.Native.Nat.{ℕ}
use mathlib.Core.Path.{◌≡◌, sym, ap, ◌∙◌}
use mathlib.Core.List.{List}
use Rattle.std.specs.Prelude.{Result, Ok, Err}
use Rattle.refusals.specs.Number.{number_of}
use Rattle.refusals.specs.declared.Refused.{Refused}
use Rattle.refusals.proofs.Unique.{refused_injective}
use Rattle.index_search.specs.Answer.{find_answer, answer_of}
use Rattle.index_search.specs.declared.Place.{Place}

-- the document's number and values tell the answer
pub answer_injective : (a b : Result Place Refused) → answer_of a ≡ answer_of b → a ≡ b
answer_injective (Ok x) (Ok y) e =
    let v : x.vector ≡ y.vector = cc in
    let r : x.read ≡ y.read = cc in
    λ i. Ok (record { vector = v i; read = r i })
answer_injective (Ok x) (Err r) e = cc
answer_injective (Err r) (Ok x) e = cc
answer_injective (Err r) (Err r') e =
    let n : number_of r.0 ≡ number_of r'.0 = cc in
    let p : r.1 ≡ r'.1 = cc in
    ap Err (refused_injective r r' n p)

pub find_error_unique : (vectors index : List ℕ) (n : ℕ) (r r' : Result Place Refused) → answer_of r ≡ find_answer vectors index n → answer_of r' ≡ find_answer vectors index n → r ≡ r'
find_error_unique vectors index n r r' p q = answer_injective r r' (p ∙ sym q)
