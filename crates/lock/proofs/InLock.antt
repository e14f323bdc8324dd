-- One valid header in lock. Assumes nothing.
use Prim.Native.Nat.{ℕ, ◌+◌, ◌%◌, ◌≤◌, ◌<◌}
use mathlib.Core.Path.{◌≡◌, refl, sym, ap, ap₂, ◌∙◌}
use mathlib.Core.Bool.{Bool, true, false, cond, ◌||◌}
use native.Mathlib.Omega.{arith}
use native.Mathlib.Nat.{add-zero}
use lib.Dec.{leb, eqb}
use borrow.Author.Tests.{lt-leb, le-leb, leb-true, leb-false}
use Rattle.lock.specs.Lock.{lock_of, slips_of, counted_of, invalid_of}
use Rattle.lock.specs.Rate.{rate_of, window_of}
use Rattle.lock.specs.declared.Lock.{Lock}
use Rattle.lock.specs.declared.Rate.{Rate}

-- the count goes on
lock_more : (l : Lock) → l.invalid < 16 → l.locked ≡ true → l.tested + 1 < 64
    → lock_of l true ≡ record { tested = l.tested + 1; invalid = l.invalid; locked = true }
unfolding lock_of slips_of counted_of invalid_of
lock_more l few on more = rw (lt-leb 16 (l.invalid + 0) (omega arith), lt-leb 64 (l.tested + 1) more, add-zero l.invalid, on)

-- .. or is full
lock_full : (l : Lock) → l.invalid < 16 → l.locked ≡ true → 64 ≤ l.tested + 1 → lock_of l true ≡ record { tested = 0; invalid = 0; locked = true }
unfolding lock_of slips_of counted_of invalid_of
lock_full l few on full = rw (lt-leb 16 (l.invalid + 0) (omega arith), le-leb 64 (l.tested + 1) full, on) (or_true (eqb (l.invalid + 0) 0))
  where
    or_true : (b : Bool) → ◌≡◌ {A = Lock} (record { tested = 0; invalid = 0; locked = b || true }) (record { tested = 0; invalid = 0; locked = true })
    or_true true = refl
    or_true false = refl

-- a lock by its counts
abbrev counts : ℕ → ℕ → Lock
counts t i = record { tested = t; invalid = i; locked = true }

-- both at once
pub lock_valid : (l : Lock) → l.tested < 64 → l.invalid < 16 → l.locked ≡ true
    → record { tested = (l.tested + 1) % 64; invalid = cond (leb 64 (l.tested + 1)) 0 l.invalid; locked = true } ≡ lock_of l true
lock_valid l small few on = go (leb 64 (l.tested + 1)) refl
  where
    go : (b : Bool) → leb 64 (l.tested + 1) ≡ b → counts ((l.tested + 1) % 64) (cond (leb 64 (l.tested + 1)) 0 l.invalid) ≡ lock_of l true
    go false e =
        let m : l.tested + 1 < 64 = leb-false 64 (l.tested + 1) e in
        let q : (l.tested + 1) % 64 ≡ l.tested + 1 = omega arith in
        ap₂ (λ (n : ℕ) (b : Bool). counts n (cond b 0 l.invalid)) q e ∙ sym (lock_more l few on m)
    go true e =
        let m : 64 ≤ l.tested + 1 = leb-true 64 (l.tested + 1) e in
        let q : (l.tested + 1) % 64 ≡ 0 = omega arith in
        ap₂ (λ (n : ℕ) (b : Bool). counts n (cond b 0 l.invalid)) q e ∙ sym (lock_full l few on m)

-- it stays locked
pub lock_stays : (l : Lock) → l.tested < 64 → l.invalid < 16 → l.locked ≡ true → (lock_of l true).locked ≡ true
lock_stays l small few on = ap (λ (x : Lock). x.locked) (sym (lock_valid l small few on))

-- no header slips
pub no_slip : (l : Lock) → l.invalid < 16 → slips_of l true ≡ false
unfolding slips_of invalid_of
no_slip l few = rw (lt-leb 16 (l.invalid + 0) (omega arith))

-- the window goes on
pub rate_valid : (r : Rate) → r.blocks + 1 < 19531 → r.invalid < 16 → r.high ≡ false
    → record { blocks = r.blocks + 1; invalid = r.invalid; high = false } ≡ rate_of r true true true
unfolding rate_of window_of invalid_of
rate_valid r more few low = rw (lt-leb 19531 (r.blocks + 1) more, lt-leb 16 (r.invalid + 0) (omega arith), add-zero r.invalid, low)
