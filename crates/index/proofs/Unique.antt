-- "Any two answers satisfying it coincide": each promise of this crate has one answer, and one content of the lent index.
use Prim.Native.Nat.{ℕ}
use mathlib.Core.Path.{◌≡◌, refl, sym, ap, ◌∙◌}
use mathlib.Core.List.{List}
use Rattle.std.specs.Prelude.{Result, Ok, Err}
use Rattle.refusals.specs.Number.{number_of}
use Rattle.refusals.specs.declared.Refused.{Refused}
use Rattle.refusals.proofs.Unique.{refused_injective}
use Rattle.block.specs.Block.{vector_list}
use Rattle.index.specs.Index.{entry_count}
use Rattle.index.specs.Answer.{answer_of, Builds}

-- the document's number and values tell the answer
pub answer_injective : (a b : Result Unit Refused) → answer_of a ≡ answer_of b → a ≡ b
answer_injective (Ok x) (Ok y) e = refl
answer_injective (Ok x) (Err r) e = cc
answer_injective (Err r) (Ok x) e = cc
answer_injective (Err r) (Err r') e =
    let n : number_of r.0 ≡ number_of r'.0 = cc in
    let p : r.1 ≡ r'.1 = cc in
    ap Err (refused_injective r r' n p)

pub build_unique : (vectors index : List ℕ) (a b : Result Unit Refused) (after after' : List ℕ) → Builds vectors index a after → Builds vectors index b after' → (a ≡ b) × (after ≡ after')
build_unique vectors index a b after after' p q = (answer_injective a b (p.0 ∙ sym q.0), p.1 ∙ sym q.1)

pub entries_unique : (vectors : List ℕ) (a b : ℕ) → a ≡ entry_count (vector_list vectors) → b ≡ entry_count (vector_list vectors) → a ≡ b
entries_unique vectors a b p q = p ∙ sym q
