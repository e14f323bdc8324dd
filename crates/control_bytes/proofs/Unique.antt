-- Any two answers that meet the promise are equal.
use Prim.Native.Nat.{ℕ, ◌<◌}
use mathlib.Core.Path.{◌≡◌, refl, sym, ap, ◌∙◌}
use mathlib.Core.List.{List}
use native.Mathlib.Omega.{arith}
use lib.ListN.{length}
use Rattle.std.specs.Prelude.{Option, Some, None, MatchOption}
use Rattle.control_bytes.specs.Control.{high_control}

module _ (bytes : List ℕ) where
  -- what `first_high` promises
  abbrev pub FirstHigh : Option ℕ → Type 0
  FirstHigh r = MatchOption r (high_control bytes ≡ length bytes) (λ p. (p ≡ high_control bytes) × (p < length bytes))

  pub first_high_unique : (r r' : Option ℕ) → FirstHigh r → FirstHigh r' → r ≡ r'
  first_high_unique None None p q = refl
  first_high_unique None (Some b) p q = absurd (omega (arith, p, q.0, q.1))
  first_high_unique (Some a) None p q = absurd (omega (arith, q, p.0, p.1))
  first_high_unique (Some a) (Some b) p q = ap Some (p.0 ∙ sym q.0)
