-- The numbers of a link that a line leads to are none that refusal 10 is given for. Assumes nothing.
use Prim.Native.Nat.{ℕ, ◌+◌, ◌≤◌}
use mathlib.Core.Path.{◌≡◌, refl}
use mathlib.Core.Bool.{Bool, true, false, not, ◌&&◌, ◌||◌}
use mathlib.Core.List.{List}
use native.Mathlib.Omega.{arith}
use lib.Dec.{leb}
use Rattle.lock.specs.Lock.{lock_of, slips_of, counted_of, invalid_of}
use Rattle.lock.specs.Rate.{rate_fresh, rate_of}
use Rattle.lock.specs.declared.Lock.{Lock}
use Rattle.lock.specs.declared.Rate.{Rate}
use Rattle.block.specs.declared.Edition.{Edition}
use Rattle.receiving.specs.Machine.{at, run, link_of, valid_of, link_fresh}
use Rattle.receiving.specs.Ranges.{InRange}
use Rattle.receiving.specs.declared.Link.{Link}
use Rattle.receiving.proofs.Each.{run_keeps}
use Rattle.receiving.proofs.Ranges.{cond_both, invalid_le, range_fresh, range_next}

-- no more invalid than tested; none of them and nothing in the window while not locked
pub record Orderly (l : Link) : Type 0 where
  pub range : InRange l
  pub invalid : l.lock.invalid ≤ l.lock.tested
  pub lost : l.lock.locked ≡ false → (l.lock.invalid ≡ 0) × (l.rate ≡ rate_fresh)

-- of the lock alone
abbrev InOrder : Lock → Type 0
InOrder l = (l.invalid ≤ l.tested) × (l.locked ≡ false → l.invalid ≡ 0)

-- an invalid header while not locked slips
valid_unlocked : (i : ℕ) (v l : Bool) → leb 16 (i + invalid_of v) || (not v && not l) ≡ false → l ≡ false → invalid_of v ≡ 0
unfolding invalid_of
valid_unlocked i true l e h = refl
valid_unlocked i false l e h = absurd (go (leb 16 (i + 1)) l e h)
  where
    go : (b l : Bool) → b || not l ≡ false → l ≡ false → ⊥
    go true l p q = let z : ◌≡◌ {A = ℕ} 0 1 = cc in omega arith
    go false true p q = let z : ◌≡◌ {A = ℕ} 0 1 = cc in omega arith
    go false false p q = let z : ◌≡◌ {A = ℕ} 0 1 = cc in omega arith

-- a step of the lock keeps the order
lock_in : (l : Lock) (v : Bool) → InOrder l → InOrder (lock_of l v)
unfolding lock_of slips_of counted_of
lock_in l v h =
    cond_both InOrder (slips_of l v) _ _ (λ e. (omega arith, λ u. refl))
    (λ e. cond_both InOrder (leb 64 (l.tested + 1)) _ _ (λ f. (omega arith, λ u. refl))
    (λ f. (omega (arith, invalid_le v), λ u. let n = valid_unlocked l.invalid v l.locked e u in omega (arith, h.1 u))))

-- not locked after the block: the error rate is as it was fresh
rate_lost : (r : Rate) (before after v : Bool) → after ≡ false → rate_of r before after v ≡ rate_fresh
unfolding rate_of
rate_lost r before after v e = rw e

-- a tested block keeps it
orderly_next : (l : Link) (h p : ℕ) → Orderly l → Orderly (link_of l h p)
unfolding link_of
orderly_next l h p o =
    let k = lock_in l.lock (valid_of h) (o.invalid, λ u. (o.lost u).0) in
    record {
      range = range_next l h p o.range;
      invalid = k.0;
      lost = λ u. (k.1 u, rate_lost l.rate l.lock.locked (lock_of l.lock (valid_of h)).locked (valid_of h) u);
    }

-- so what a fresh link comes to is orderly
pub orderly : (ed : Edition) (bits : List ℕ) → Orderly (run (at (link_fresh ed)) bits).end.link
orderly ed bits =
    run_keeps Orderly (λ t. Unit) orderly_next (λ l h p o. tt) (at (link_fresh ed)) bits
    (record { range = range_fresh ed; invalid = omega arith; lost = λ u. (refl, refl) })
