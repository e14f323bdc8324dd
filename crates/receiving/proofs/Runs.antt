-- The laws of `run`: over joined lists of bits, over the bits that fill a block, over bits that do not. Assumes nothing.
use Prim.Native.Nat.{ℕ, ◌+◌, ◌-◌, ◌<◌}
use mathlib.Core.Path.{◌≡◌, refl, ap, ◌∙◌}
use mathlib.Core.Bool.{true, false}
use mathlib.Core.List.{List, [], ◌∷◌, ◌++◌, append_assoc, append-nil}
use native.Mathlib.Omega.{arith}
use lib.ListN.{length, length-append}
use lib.Seq.{append_snoc}
use borrow.Author.Tests.{eq-eqb, ne_eqb}
use Rattle.receiving.specs.Machine.{Feed, Run, Tested, at, after_block, tested_block, feed, filled, run}
use Rattle.receiving.specs.declared.Link.{Link}

-- a run with blocks tested before it
abbrev pub run_behind : List Tested → Run → Run
run_behind ts r = record { tested = ts ++ r.tested; end = r.end }

-- cutting the line anywhere
pub run_append : (f : Feed) (a b : List ℕ) → run f (a ++ b) ≡ run_behind (run f a).tested (run (run f a).end b)
unfolding run
run_append f [] b = refl
run_append f (x ∷ a) b = rw (run_append (feed f x) a b, append_assoc)

-- the bits of a block so far
abbrev pub waiting : Link → List ℕ → Feed
waiting l bits = record { bits = bits; skip = false; link = l }

-- bits that fill a block
pub run_fill : (l : Link) (c xs rest : List ℕ) → length c + length xs ≡ 66 → 0 < length xs
    → run (waiting l c) (xs ++ rest) ≡ run_behind (tested_block l (c ++ xs) ∷ []) (run (after_block l (c ++ xs)) rest)
unfolding run feed filled
run_fill l c [] rest e h = absurd (omega arith)
run_fill l c (x ∷ []) rest e h = rw (eq-eqb (length c) 65 (omega arith))
run_fill l c (x ∷ y ∷ xs) rest e h =
    rw (ne_eqb (length c) 65 (λ q. omega arith), ← append_snoc c x (y ∷ xs))
    (run_fill l (c ++ x ∷ []) (y ∷ xs) rest (simp length-append (omega arith)) (omega arith))

-- bits that do not: "Bits that do not fill a block are not tested."
pub run_short : (l : Link) (c xs : List ℕ) → length c + length xs < 66 → run (waiting l c) xs ≡ record { tested = []; end = waiting l (c ++ xs) }
unfolding run feed filled
run_short l c [] h = rw append-nil
run_short l c (x ∷ xs) h =
    rw (ne_eqb (length c) 65 (λ q. omega arith), ← append_snoc c x xs)
    (run_short l (c ++ x ∷ []) xs (simp length-append (omega arith)))

-- so they wait with those before them
pub run_wait : (l : Link) (c xs rest : List ℕ) → length c + length xs < 66 → run (waiting l c) (xs ++ rest) ≡ run (waiting l (c ++ xs)) rest
run_wait l c xs rest h = run_append (waiting l c) xs rest ∙ ap (λ (r : Run). run_behind r.tested (run r.end rest)) (run_short l c xs h)

-- one bit that is skipped
pub run_skip : (l : Link) (c : List ℕ) (x : ℕ) (rest : List ℕ) → run (record { bits = c; skip = true; link = l }) (x ∷ rest) ≡ run (at l) rest
unfolding run feed filled
run_skip l c x rest = refl
