-- A tested block keeps the link's numbers in range. Assumes nothing.
use Prim.Native.Nat.{ℕ, ◌+◌, ◌≤◌, ◌<◌}
use mathlib.Core.Path.{◌≡◌, refl}
use mathlib.Core.Bool.{Bool, true, false, cond, ◌&&◌, ◌||◌}
use native.Mathlib.Omega.{arith}
use lib.Dec.{leb}
use borrow.Author.Tests.{leb-false}
use Rattle.scrambler.proofs.Laws.{line_after_lt}
use Rattle.block.specs.declared.Edition.{Edition}
use Rattle.lock.specs.Lock.{lock_of, slips_of, counted_of, invalid_of}
use Rattle.lock.specs.Rate.{rate_of, window_of}
use Rattle.lock.specs.declared.Lock.{Lock}
use Rattle.lock.specs.declared.Rate.{Rate}
use Rattle.receiving.specs.Machine.{link_of, valid_of, link_fresh}
use Rattle.receiving.specs.Ranges.{InRange}
use Rattle.receiving.specs.declared.Link.{Link}

-- a header adds at most one invalid
pub invalid_le : (v : Bool) → invalid_of v ≤ 1
unfolding invalid_of
invalid_le true = omega arith
invalid_le false = omega arith

-- the ranges of the lock
abbrev LockInRange : Lock → Type 0
LockInRange l = (l.tested < 64) × (l.invalid < 16)

-- the ranges of the error rate
abbrev RateInRange : Rate → Type 0
RateInRange r = (r.blocks < 19531) × (r.invalid ≤ r.blocks)

-- by the test that a value goes by
pub cond_both {ℓ} : {X : Type 0} (P : X → Type ℓ) (b : Bool) (x y : X) → (b ≡ true → P x) → (b ≡ false → P y) → P (cond b x y)
cond_both P true x y p q = p refl
cond_both P false x y p q = q refl

-- where neither holds, the first does not
or_false_left : (a b : Bool) → a || b ≡ false → a ≡ false
or_false_left true b e = e
or_false_left false b e = refl

-- a step of the lock keeps them
lock_in : (l : Lock) (v : Bool) → LockInRange l → LockInRange (lock_of l v)
unfolding lock_of slips_of counted_of
lock_in l v h =
    cond_both LockInRange (slips_of l v) _ _ (λ e. omega arith)
    (λ e. cond_both LockInRange (leb 64 (l.tested + 1)) _ _ (λ f. omega arith)
    (λ f. omega (arith, leb-false 64 (l.tested + 1) f, leb-false 16 (l.invalid + invalid_of v) (or_false_left (leb 16 (l.invalid + invalid_of v)) _ e))))

-- a step of the error rate keeps them
rate_in : (r : Rate) (b a v : Bool) → RateInRange r → RateInRange (rate_of r b a v)
unfolding rate_of window_of
rate_in r b a v h =
    cond_both RateInRange (a && b) _ _
    (λ e. cond_both RateInRange (leb 19531 (r.blocks + 1)) _ _ (λ f. omega arith) (λ f. omega (arith, leb-false 19531 (r.blocks + 1) f, invalid_le v)))
    (λ e. omega arith)

-- a fresh link is in range
pub range_fresh : (ed : Edition) → InRange (link_fresh ed)
range_fresh ed = record { tested = omega arith; invalid = omega arith; blocks = omega arith; misses = omega arith; history = omega arith }

-- a tested block keeps a link in range
pub range_next : (l : Link) (h p : ℕ) → InRange l → InRange (link_of l h p)
unfolding link_of
range_next l h p g =
    let a = lock_in l.lock (valid_of h) (g.tested, g.invalid) in
    let b = rate_in l.rate l.lock.locked (lock_of l.lock (valid_of h)).locked (valid_of h) (g.blocks, g.misses) in
    record { tested = a.0; invalid = a.1; blocks = b.0; misses = b.1; history = line_after_lt p l.history g.history }
