-- Any two answers that meet the promise are equal.
use Prim.Native.Nat.{ℕ}
use mathlib.Core.Path.{◌≡◌, sym, ◌∙◌}
use mathlib.Core.List.{List}
use Rattle.std.specs.Prelude.{Result}
use Rattle.refusals.specs.First.{first}
use Rattle.refusals.specs.Refused.{verdict_of}
use Rattle.refusals.specs.declared.Refused.{Refused}
use Rattle.refusals.proofs.Unique.{verdict_injective}
use Rattle.vector_checks.specs.Checks.{vector_checks}

pub check_vectors_unique : (bytes : List ℕ) (r r' : Result Unit Refused) → verdict_of r ≡ first (vector_checks bytes) → verdict_of r' ≡ first (vector_checks bytes) → r ≡ r'
check_vectors_unique bytes r r' p q = verdict_injective r r' (p ∙ sym q)
