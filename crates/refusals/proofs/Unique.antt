-- Any two answers that meet a function's promise are equal.
use Prim.Native.Nat.{ℕ, ◌<◌}
use mathlib.Core.Path.{◌≡◌, refl, ap, ap₂, sym, ◌∙◌}
use Rattle.std.specs.Prelude.{Result, Ok, Err}
use Rattle.refusals.specs.Number.{number_of}
use Rattle.refusals.specs.Refused.{verdict_of}
use Rattle.refusals.specs.declared.Refusal.{Refusal}
use Rattle.refusals.specs.declared.Refused.{Refused}
use Rattle.refusals.proofs.Laws.{number_injective}

pub number_unique : (r : Refusal) (a b : ℕ) → (a ≡ number_of r) × (a < 256) → (b ≡ number_of r) × (b < 256) → a ≡ b
number_unique r a b p q = p.0 ∙ sym q.0

-- The document's number and place tell a refusal ..
refused_at : Refusal → ℕ → Refused
refused_at why place = record { 0 = why; 1 = place }

pub refused_injective : (r r' : Refused) → number_of r.0 ≡ number_of r'.0 → r.1 ≡ r'.1 → r ≡ r'
unfolding refused_at
refused_injective r r' n p = ap₂ refused_at (number_injective r.0 r'.0 n) p

-- .. and so a verdict the answer that it is of.
pub verdict_injective : (a b : Result Unit Refused) → verdict_of a ≡ verdict_of b → a ≡ b
verdict_injective (Ok x) (Ok y) e = refl
verdict_injective (Ok x) (Err r) e = cc
verdict_injective (Err r) (Ok x) e = cc
verdict_injective (Err r) (Err r') e =
    let n : number_of r.0 ≡ number_of r'.0 = cc in
    let p : r.1 ≡ r'.1 = cc in
    ap Err (refused_injective r r' n p)
