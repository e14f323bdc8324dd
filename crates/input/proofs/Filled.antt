-- What two reads put into a buffer, one behind the other. Assumes nothing.
use mathlib.Core.Path.{◌≡◌, sym, ap, subst, ◌∙◌}
use mathlib.Core.List.{List, ◌++◌}
use Prim.Native.Nat.{ℕ, ◌+◌, ◌≤◌}
use native.Mathlib.Omega.{arith}
use lib.ListN.{length, take, length-append}
use lib.Seq.{length-take-le, take-append-add, take-append-le}
use borrow.Rule.Slice.PartMut.{put_mid, post_of}
use Rattle.std.specs.Prelude.{Option}
use Rattle.std.specs.Io.KnownBytes.{Consumes}
use Rattle.std.proofs.KnownBytes.{Consumes-trans}

-- The first bytes of a buffer, and those put behind them.
pub put_behind : (at k n : ℕ) (buffer part : List ℕ) → at ≤ length buffer → n ≤ length part → take (at + n) (put_mid at k buffer part) ≡ take at buffer ++ take n part
put_behind at k n buffer part within fits =
    ap (λ (m : ℕ). take (m + n) (put_mid at k buffer part)) (sym (length-take-le at buffer within))
    ∙ take-append-add (take at buffer) (part ++ post_of at k buffer) n
    ∙ ap (λ (x : List ℕ). take at buffer ++ x) (take-append-le n part (post_of at k buffer) fits)

-- Where both are what a reader gave, so are they together.
pub given_behind : (a b c : Option (List ℕ)) (at k n : ℕ) (buffer part : List ℕ) → at ≤ length buffer → n ≤ length part
    → Consumes a b (take at buffer) → Consumes b c (take n part) → Consumes a c (take (at + n) (put_mid at k buffer part))
given_behind a b c at k n buffer part within fits p q = subst (Consumes a c) (sym (put_behind at k n buffer part within fits)) (Consumes-trans a b c _ _ p q)

-- A whole head, and what stands behind it.
pub window_given : (a b c : Option (List ℕ)) (at k n m : ℕ) (head rest part : List ℕ) → n ≡ at → at ≤ length head → m ≤ length part
    → Consumes a b (take n head) → Consumes b c (take m part) → Consumes a c (take (at + m) (put_mid at k (head ++ rest) part))
window_given a b c at k n m head rest part e within fits p q =
    let kept : take n head ≡ take at (head ++ rest) = ap (λ (i : ℕ). take i head) e ∙ sym (take-append-le at head rest within) in
    given_behind a b c at k m (head ++ rest) part (omega (arith, length-append head rest, within)) fits (subst (Consumes a b) kept p) q
