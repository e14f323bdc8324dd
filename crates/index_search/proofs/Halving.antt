-- The halving rule: its steps, what it brackets, and how many entries it reads. Assumes nothing.
use Prim.Native.Nat.{ℕ, zero, suc, ◌+◌, ◌*◌, ◌/◌, ◌-◌, ◌^◌, ◌≤◌, ◌<◌}
use mathlib.Core.Path.{◌≡◌, refl, sym, ap, ◌∙◌}
use mathlib.Core.List.{List}
use native.Mathlib.Omega.{arith}
use native.Mathlib.Nat.{pow-suc}
use borrow.Author.Tests.{lt-ltb, le-ltb}
use Rattle.bits.proofs.Laws.{by_lt}
use Rattle.index.specs.Index.{errors_at}
use Rattle.index_search.specs.Search.{one_more_read, halved}
use Rattle.index_search.specs.declared.Halved.{Halved}

-- ---- its steps

-- one entry remains
halved_one : (enough : ℕ) (index : List ℕ) (n low len : ℕ) → len ≤ 1 → halved enough index n low len ≡ record { entry = low; read = 1 }
unfolding halved
halved_one zero index n low len h = refl
halved_one (suc enough) index n low len h = rw (le-ltb 1 len h)

-- the entries from the middle on, and those below it
halved_above : (enough : ℕ) (index : List ℕ) (n low len : ℕ) → 1 < len → errors_at index (low + len / 2) < n
    → halved (suc enough) index n low len ≡ one_more_read (halved enough index n (low + len / 2) (len - len / 2))
unfolding halved
halved_above enough index n low len h l = rw (lt-ltb 1 len h, lt-ltb (errors_at index (low + len / 2)) n l)

halved_below : (enough : ℕ) (index : List ℕ) (n low len : ℕ) → 1 < len → n ≤ errors_at index (low + len / 2)
    → halved (suc enough) index n low len ≡ one_more_read (halved enough index n low (len / 2))
unfolding halved
halved_below enough index n low len h l = rw (lt-ltb 1 len h, le-ltb (errors_at index (low + len / 2)) n l)

-- ---- what a call of the code answers, whatever is enough

abbrev pub Halves : List ℕ → (n low len : ℕ) → Halved → Type 0
Halves index n low len r = (enough : ℕ) → len ≤ enough → r ≡ halved enough index n low len

pub halves_one : (index : List ℕ) (n low len : ℕ) → len ≤ 1 → Halves index n low len (record { entry = low; read = 1 })
halves_one index n low len h f l = sym (halved_one f index n low len h)

pub halves_above : (index : List ℕ) (n low len x : ℕ) (r : Halved) → 1 < len → x ≡ errors_at index (low + len / 2) → x < n
    → Halves index n (low + len / 2) (len - len / 2) r → Halves index n low len (one_more_read r)
halves_above index n low len x r p e q h zero l = absurd (omega arith)
halves_above index n low len x r p e q h (suc f) l = ap one_more_read (h f (omega arith)) ∙ sym (halved_above f index n low len p (rw e at q))

pub halves_below : (index : List ℕ) (n low len x : ℕ) (r : Halved) → 1 < len → x ≡ errors_at index (low + len / 2) → n ≤ x
    → Halves index n low (len / 2) r → Halves index n low len (one_more_read r)
halves_below index n low len x r p e q h zero l = absurd (omega arith)
halves_below index n low len x r p e q h (suc f) l = ap one_more_read (h f (omega arith)) ∙ sym (halved_below f index n low len p (rw e at q))

-- ---- what it brackets

-- The entry that remains lies in the range. If it is not the first, fewer than n stand before it; if it is not the last, n or more stand before
-- the next.
pub record Bracket (index : List ℕ) (n low len : ℕ) (h : Halved) : Type 0 where
  pub from : low ≤ h.entry
  pub below : h.entry < low + len
  pub reads : h.read ≤ len
  pub fewer : low < h.entry → errors_at index h.entry < n
  pub enough : h.entry + 1 < low + len → n ≤ errors_at index (h.entry + 1)

pub bracket : (enough : ℕ) (index : List ℕ) (n low len : ℕ) → 0 < len → len ≤ enough → Bracket index n low len (halved enough index n low len)
bracket zero index n low len p h = absurd (omega arith)
bracket (suc f) index n low len p h =
    by_lt 1 len
    (λ l.
    by_lt (errors_at index (low + len / 2)) n
    (λ a. rw (halved_above f index n low len l a) (up l a (bracket f index n (low + len / 2) (len - len / 2) (omega arith) (omega arith))))
    (λ a. rw (halved_below f index n low len l a) (down l a (bracket f index n low (len / 2) (omega arith) (omega arith)))))
    (λ l.
    rw (halved_one (suc f) index n low len l)
    (record { from = omega arith; below = omega arith; reads = omega arith; fewer = λ m. absurd (omega arith); enough = λ m. absurd (omega arith) }))
  where
    up : {r : Halved} → 1 < len → errors_at index (low + len / 2) < n → Bracket index n (low + len / 2) (len - len / 2) r → Bracket index n low len (one_more_read r)
    up {r} l a b =
        record {
          from = omega (arith, b.from);
          below = omega (arith, b.below);
          reads = omega (arith, b.reads);
          fewer =
              λ m.
              by_lt (low + len / 2) r.entry (λ q. b.fewer q)
              (λ q. let e : low + len / 2 ≡ r.entry = omega (arith, b.from) in rw e at a);
          enough = λ m. b.enough (omega arith);
        }

    down : {r : Halved} → 1 < len → n ≤ errors_at index (low + len / 2) → Bracket index n low (len / 2) r → Bracket index n low len (one_more_read r)
    down {r} l a b =
        record {
          from = b.from;
          below = omega (arith, b.below);
          reads = omega (arith, b.reads);
          fewer = b.fewer;
          enough =
              λ m.
              by_lt (r.entry + 1) (low + len / 2) (λ q. b.enough q)
              (λ q. let e : low + len / 2 ≡ r.entry + 1 = omega (arith, b.below) in rw e at a);
        }

pub halves_bracket : (index : List ℕ) (n low len : ℕ) (r : Halved) → 0 < len → Halves index n low len r → Bracket index n low len r
halves_bracket index n low len r p h = rw (h len (omega arith)) (bracket len index n low len p (omega arith))

-- ---- how many entries are read: of at most 2 ^ b at most b + 1

pub read_bound : (b enough : ℕ) (index : List ℕ) (n low len : ℕ) → len ≤ 2 ^ b → (halved enough index n low len).read ≤ b + 1
unfolding halved
read_bound zero enough index n low len h = rw (halved_one enough index n low len h) (omega arith)
read_bound (suc b) zero index n low len h = omega arith
read_bound (suc b) (suc f) index n low len h =
    let d : 2 ^ suc b ≡ 2 ^ b * 2 = pow-suc 2 b in
    by_lt 1 len
    (λ l.
    by_lt (errors_at index (low + len / 2)) n
    (λ a. let i = read_bound b f index n (low + len / 2) (len - len / 2) (omega arith) in rw (halved_above f index n low len l a) (omega arith))
    (λ a. let i = read_bound b f index n low (len / 2) (omega arith) in rw (halved_below f index n low len l a) (omega arith)))
    (λ l. rw (halved_one (suc f) index n low len l) (omega arith))
