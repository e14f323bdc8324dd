-- Lock over a line of blocks: 64 valid headers from the start give it, and fewer than 16 invalid ones in all never take it. Assumes nothing.
use mathlib.Core.Path.{◌≡◌, refl, sym, ap, ◌∙◌}
use mathlib.Core.Bool.{Bool, true, false, not, ◌&&◌, ◌||◌, cond}
use mathlib.Core.List.{List, [], ◌∷◌}
use Prim.Native.Nat.{ℕ, zero, suc, ◌+◌, ◌-◌, ◌≤◌, ◌<◌}
use native.Mathlib.Omega.{arith}
use lib.Dec.{eqb, leb}
use lib.ListN.{length, take, drop, get_or, length-drop}
use lib.Seq.{get_or-take, get_or-drop, length-take-le}
use borrow.Author.Tests.{lt-leb, le-leb}
use Rattle.bits.proofs.Laws.{by_lt}
use Rattle.line.specs.declared.Block.{Block}
use Rattle.block.specs.declared.Edition.{Edition}
use Rattle.lock.specs.Lock.{slips_of, lock_of, counted_of, invalid_of}
use Rattle.lock.specs.Rate.{rate_fresh, rate_of, window_of}
use Rattle.lock.specs.declared.Lock.{Lock}
use Rattle.lock.specs.declared.Rate.{Rate}
use Rattle.receiving.specs.Machine.{Tested, link_fresh, valid_of, link_of, tested_of}
use Rattle.receiving.specs.declared.Link.{Link}
use Rattle.demands.proofs.Runs.{link_after, tested_all, valids, Steady, length_tested}

-- ---- what is said of a list of headers, and of a list of tested blocks

-- how many headers are invalid
unfoldable pub invalids : List Bool → ℕ
invalids [] = 0
invalids (v ∷ vs) = invalid_of v + invalids vs

-- there are n headers, and the first n are valid
abbrev pub FirstValid : ℕ → List Bool → Type 0
FirstValid zero vs = Unit
FirstValid (suc n) [] = ⊥
FirstValid (suc n) (v ∷ vs) = (v ≡ true) × FirstValid n vs

-- after every block the receiver is, or is not, locked and not high
abbrev pub On : Bool → List Tested → Type 0
On b [] = Unit
On b (t ∷ ts) = (t.on ≡ b) × On b ts

-- Over the blocks bs from the link l: no slip; not locked before block i, locked and not high from block i on; and so at the end.
pub record Locks (i : ℕ) (l : Link) (bs : List Block) : Type 0 where
  pub steady : Steady l.lock (valids bs)
  pub before : On false (take i (tested_all l bs))
  pub after : On true (drop i (tested_all l bs))
  pub locked : (link_after l bs).lock.locked ≡ true
  pub calm : (link_after l bs).rate.high ≡ false

-- ---- in lock, with fewer than 16 invalid headers to come

-- locked, and with n more invalid headers still fewer than 16
record StaysLocked (n : ℕ) (l : Lock) : Type 0 where
  locked : l.locked ≡ true
  few : l.invalid + n < 16

-- not high, and with n more invalid headers still fewer than 16
record StaysCalm (n : ℕ) (r : Rate) : Type 0 where
  calm : r.high ≡ false
  few : r.invalid + n < 16

-- by the two cases of a test
either {ℓ} : {X : Type 0} (P : X → Type ℓ) (b : Bool) (x y : X) → P x → P y → P (cond b x y)
either P true x y p q = p
either P false x y p q = q

-- with true, or is true
or_true : (a : Bool) → a || true ≡ true
or_true true = refl
or_true false = refl

-- with false, and is false
and-false : (a : Bool) → a && false ≡ false
and-false true = refl
and-false false = refl

-- such a lock does not slip
no_slip : (n : ℕ) (l : Lock) (v : Bool) → StaysLocked (invalid_of v + n) l → slips_of l v ≡ false
unfolding slips_of
no_slip n l v h = rw (lt-leb 16 (l.invalid + invalid_of v) (omega (arith, h.few)), h.locked) (and-false (not v))

-- it stays locked
lock_stays : (n : ℕ) (l : Lock) (v : Bool) → StaysLocked (invalid_of v + n) l → StaysLocked n (lock_of l v)
unfolding lock_of counted_of
lock_stays n l v h =
    rw (no_slip n l v h)
    (either (StaysLocked n) (leb 64 (l.tested + 1)) _ _
    (record { locked = rw h.locked (or_true (eqb (l.invalid + invalid_of v) 0)); few = omega (arith, h.few) })
    (record { locked = h.locked; few = omega (arith, h.few) }))

-- the error rate stays not high
rate_stays : (n : ℕ) (r : Rate) (before after v : Bool) → n < 16 → StaysCalm (invalid_of v + n) r → StaysCalm n (rate_of r before after v)
unfolding rate_of window_of
rate_stays n r before after v m h =
    either (StaysCalm n) (after && before) _ _
    (either (StaysCalm n) (leb 19531 (r.blocks + 1)) _ _
    (record { calm = lt-leb 16 (r.invalid + invalid_of v) (omega (arith, h.few)); few = omega arith })
    (record { calm = rw (lt-leb 16 (r.invalid + invalid_of v) (omega (arith, h.few))) h.calm; few = omega (arith, h.few) }))
    (record { calm = refl; few = omega arith })

-- so the block is answered
on_then : (l : Link) (h p n : ℕ) → StaysLocked n (link_of l h p).lock → StaysCalm n (link_of l h p).rate → (tested_of l h p).on ≡ true
unfolding tested_of
on_then l h p n a b = rw (a.locked, b.calm)

-- one more block, with no slip, before blocks over which the receiver locks at block j
more : (i j : ℕ) (l : Link) (b : Block) (bs : List Block) → slips_of l.lock (valid_of b.header) ≡ false
    → On false (take i (tested_all l (b ∷ bs))) → On true (drop i (tested_all l (b ∷ bs)))
    → Locks j (link_of l b.header b.payload) bs → Locks i l (b ∷ bs)
unfolding link_after valids link_of
more i j l b bs c before after r = record { steady = (c, r.steady); before = before; after = after; locked = r.locked; calm = r.calm }

-- and so over all the blocks to come
stays : (l : Link) (bs : List Block) → StaysLocked (invalids (valids bs)) l.lock → StaysCalm (invalids (valids bs)) l.rate → Locks 0 l bs
unfolding link_after tested_all valids invalids link_of
stays l [] a b = record { steady = tt; before = tt; after = tt; locked = a.locked; calm = b.calm }
stays l (b ∷ bs) x y = next x' y' (stays l' bs x' y')
  where
    n : ℕ
    n = invalids (valids bs)

    l' : Link
    l' = link_of l b.header b.payload

    x' : StaysLocked n l'.lock
    x' = lock_stays n l.lock (valid_of b.header) x

    y' : StaysCalm n l'.rate
    y' = rate_stays n l.rate l.lock.locked l'.lock.locked (valid_of b.header) (omega (arith, x'.few)) y

    next : StaysLocked n l'.lock → StaysCalm n l'.rate → Locks 0 l' bs → Locks 0 l (b ∷ bs)
    next u w r =
        more 0 0 l b bs (no_slip n l.lock (valid_of b.header) x) tt (on_then l b.header b.payload n u w, r.after) r

-- ---- counting to 64

-- j valid headers since the counts were zero, not locked
abbrev counting : ℕ → Lock
counting j = record { tested = j; invalid = 0; locked = false }

-- a link that counts
record Counting (j : ℕ) (l : Link) : Type 0 where
  lock : l.lock ≡ counting j
  rate : l.rate ≡ rate_fresh

-- lock, with both counts at zero
abbrev gained : Lock
gained = record { tested = 0; invalid = 0; locked = true }

-- one more valid header
counts : (j : ℕ) → j + 1 < 64 → lock_of (counting j) true ≡ counting (j + 1)
unfolding lock_of slips_of counted_of invalid_of
counts j h = rw (lt-leb 64 (j + 1) h)

-- the 64th
gains : lock_of (counting 63) true ≡ gained
unfolding lock_of slips_of counted_of invalid_of
gains = refl

-- a valid header does not slip
waits : (j : ℕ) → slips_of (counting j) true ≡ false
unfolding slips_of invalid_of
waits j = refl

module _ (j : ℕ) (l : Link) (h p : ℕ) (c : Counting j l) (v : valid_of h ≡ true) where
  -- no slip while it counts
  no_slip_yet : slips_of l.lock (valid_of h) ≡ false
  no_slip_yet = rw (c.lock, v) (waits j)

  -- it counts on
  counts_on : j + 1 < 64 → Counting (j + 1) (link_of l h p)
  unfolding link_of rate_of
  counts_on m = record { lock = rw (c.lock, v) (counts j m); rate = rw (c.lock, v, counts j m) }

  -- and is not locked yet
  not_yet : j + 1 < 64 → (tested_of l h p).on ≡ false
  unfolding tested_of
  not_yet m = rw (counts_on m).lock

  -- with the 64th it is locked
  gains_lock : j ≡ 63 → (link_of l h p).lock ≡ gained
  unfolding link_of
  gains_lock e = rw (c.lock, v, e) gains

  -- and no window has begun
  gains_rate : j ≡ 63 → (link_of l h p).rate ≡ rate_fresh
  unfolding link_of rate_of
  gains_rate e = rw (c.lock, v, e, gains)

-- from j valid headers on, lock comes with the 64th, and stays
gets : (j i : ℕ) (l : Link) (bs : List Block) → j + i ≡ 63 → Counting j l → FirstValid (suc i) (valids bs) → invalids (valids bs) < 16 → Locks i l bs
unfolding tested_all valids invalids
gets j i l [] e c f m = absurd f
gets j zero l (b ∷ bs) e c f m = next (stays l' bs x y)
  where
    n : ℕ
    n = invalids (valids bs)

    l' : Link
    l' = link_of l b.header b.payload

    x : StaysLocked n l'.lock
    x = rw (gains_lock j l b.header b.payload c f.0 (omega arith)) (record { locked = refl; few = omega arith })

    y : StaysCalm n l'.rate
    y = rw (gains_rate j l b.header b.payload c f.0 (omega arith)) (record { calm = refl; few = omega arith })

    next : Locks 0 l' bs → Locks 0 l (b ∷ bs)
    next r = more 0 0 l b bs (no_slip_yet j l b.header b.payload c f.0) tt (on_then l b.header b.payload n x y, r.after) r
gets j (suc i) l (b ∷ bs) e c f m =
    next (gets (j + 1) i l' bs (omega arith) (counts_on j l b.header b.payload c f.0 (omega arith)) f.1 (omega arith))
  where
    l' : Link
    l' = link_of l b.header b.payload

    next : Locks i l' bs → Locks (suc i) l (b ∷ bs)
    next r =
        more (suc i) i l b bs (no_slip_yet j l b.header b.payload c f.0)
        (not_yet j l b.header b.payload c f.0 (omega arith), r.before) r.after r

-- A fresh receiver over blocks of which the first 64 headers are valid and fewer than 16 are invalid in all: no slip on the way;
-- not locked before block 63, locked from block 63 on, and never high.
pub lock_by_64 : (ed : Edition) (bs : List Block) → FirstValid 64 (valids bs) → invalids (valids bs) < 16 → Locks 63 (link_fresh ed) bs
lock_by_64 ed bs f m = gets 0 63 (link_fresh ed) bs (omega arith) (record { lock = refl; rate = refl }) f m

-- ---- the same at one block

-- what is so after every block is so after block k
on_at : (b : Bool) (ts : List Tested) (z : Tested) (k : ℕ) → On b ts → k < length ts → (get_or ts k z).on ≡ b
on_at b [] z k o h = absurd (omega arith)
on_at b (t ∷ ts) z zero o h = o.0
on_at b (t ∷ ts) z (suc k) o h = on_at b ts z k o.1 (omega arith)

-- after block k the receiver is locked and not high exactly from block i on
pub locked_at : (i : ℕ) (l : Link) (bs : List Block) (z : Tested) → i ≤ length bs → Locks i l bs → (k : ℕ) → k < length bs
    → (get_or (tested_all l bs) k z).on ≡ leb i k
locked_at i l bs z room r k h = by_lt k i early late
  where
    ts : List Tested
    ts = tested_all l bs

    early : k < i → (get_or ts k z).on ≡ leb i k
    early m =
        ap (λ (t : Tested). t.on) (sym (get_or-take i ts k z m))
        ∙ on_at false (take i ts) z k r.before (rw (length-take-le i ts (rw (length_tested l bs) room)) m)
        ∙ sym (lt-leb i k m)

    late : i ≤ k → (get_or ts k z).on ≡ leb i k
    late m =
        let e : i + (k - i) ≡ k = omega arith in
        ap (λ (j : ℕ). (get_or ts j z).on) (sym e) ∙ ap (λ (t : Tested). t.on) (sym (get_or-drop i ts (k - i) z))
        ∙ on_at true (drop i ts) z (k - i) r.after (rw (length-drop, length_tested l bs) (omega arith))
        ∙ sym (le-leb i k m)
