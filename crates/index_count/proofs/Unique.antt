-- "Any two answers satisfying it coincide": counting's promise has one answer.
use Prim.Native.Nat.{ℕ}
use mathlib.Core.Path.{◌≡◌, sym, ap, ◌∙◌}
use mathlib.Core.List.{List}
use Rattle.std.specs.Prelude.{Result, Ok, Err}
use Rattle.refusals.specs.Number.{number_of}
use Rattle.refusals.specs.declared.Refused.{Refused}
use Rattle.refusals.proofs.Unique.{refused_injective}
use Rattle.tally.specs.declared.Tally.{Tally}
use Rattle.index_count.specs.Answer.{count_answer, answer_of}

-- the document's number and values tell the answer
pub answer_injective : (a b : Result Tally Refused) → answer_of a ≡ answer_of b → a ≡ b
answer_injective (Ok x) (Ok y) e =
    let f : x.errors ≡ y.errors = cc in
    let s : x.starts ≡ y.starts = cc in
    λ i. Ok (record { errors = f i; starts = s i })
answer_injective (Ok x) (Err r) e = cc
answer_injective (Err r) (Ok x) e = cc
answer_injective (Err r) (Err r') e =
    let n : number_of r.0 ≡ number_of r'.0 = cc in
    let p : r.1 ≡ r'.1 = cc in
    ap Err (refused_injective r r' n p)

pub count_unique : (vectors index : List ℕ) (a b : ℕ) (r r' : Result Tally Refused) → answer_of r ≡ count_answer vectors index a b → answer_of r' ≡ count_answer vectors index a b → r ≡ r'
count_unique vectors index a b r r' p q = answer_injective r r' (p ∙ sym q)
