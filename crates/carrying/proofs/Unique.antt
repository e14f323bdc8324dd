-- Any two that meet what `Carried::default` promises are equal.
use mathlib.Core.Path.{◌≡◌, sym, ◌∙◌}
use Rattle.carrying.specs.declared.Carried.{Carried}

pub default_unique : (a b : Carried) → (a.count ≡ 0) × (a.header ≡ 0) × (a.payload ≡ 0) → (b.count ≡ 0) × (b.header ≡ 0) × (b.payload ≡ 0) → a ≡ b
default_unique a b p q =
    λ i. record { count = (p.0 ∙ sym q.0) i; header = (p.1 ∙ sym q.1) i; payload = (p.2 ∙ sym q.2) i }
