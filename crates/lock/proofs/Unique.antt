-- Any two answers that meet a function's promise are equal.
use mathlib.Core.Path.{◌≡◌, sym, ap₂, ◌∙◌}
use mathlib.Core.Bool.{Bool}
use Rattle.lock.specs.Lock.{lock_of, slips_of}
use Rattle.lock.specs.Rate.{rate_of}
use Rattle.lock.specs.declared.Lock.{Lock}
use Rattle.lock.specs.declared.Locking.{Locking}
use Rattle.lock.specs.declared.Rate.{Rate}

pub lock_step_unique : (l : Lock) (valid : Bool) (a b : Locking)
    → (a.lock ≡ lock_of l valid) × (a.slipped ≡ slips_of l valid)
    → (b.lock ≡ lock_of l valid) × (b.slipped ≡ slips_of l valid) → a ≡ b
lock_step_unique l valid a b p q =
    ap₂ (λ (x : Lock) (y : Bool). record { lock = x; slipped = y }) (p.0 ∙ sym q.0) (p.1 ∙ sym q.1)

pub rate_step_unique : (r : Rate) (before after valid : Bool) (a b : Rate) → a ≡ rate_of r before after valid → b ≡ rate_of r before after valid → a ≡ b
rate_step_unique r before after valid a b p q = p ∙ sym q
