-- What a `match` on a number tells in its last arm: the number is none of those before.
use mathlib.Core.Path.{◌≡◌, sym}
use mathlib.Core.Bool.{Bool, false, ◌||◌}
use mathlib.Core.List.{List, [], ◌∷◌}
use Prim.Native.Nat.{ℕ, ◌<◌}
use lib.Dec.{T, eqb, eqb→eq}
use Rattle.bits.proofs.Tests.{or_right, each, at}

-- the last of them first
abbrev pub NoneOf : List ℕ → ℕ → Type 0
NoneOf [] x = Unit {0}
NoneOf (k ∷ ks) x = NoneOf ks x × (x ≡ k → ⊥)

abbrev pub has : List ℕ → ℕ → Bool
has [] x = false
has (k ∷ ks) x = eqb x k || has ks x

not_has : (ks : List ℕ) (x : ℕ) → NoneOf ks x → T (has ks x) → ⊥
not_has [] x n t = t
not_has (k ∷ ks) x n t = not_has ks x n.0 (or_right (eqb x k) (has ks x) t (λ e. n.1 (eqb→eq x k e)))

-- a value that a rule has at all other numbers
pub otherwise : (ks : List ℕ) (f : ℕ → ℕ) (z n : ℕ) → T (each (λ x. has ks x || eqb (f x) z) 0 n) → (x : ℕ) → x < n → NoneOf ks x → z ≡ f x
otherwise ks f z n t x h m = sym (eqb→eq (f x) z (or_right (has ks x) (eqb (f x) z) (at (λ x. has ks x || eqb (f x) z) n t x h) (not_has ks x m)))
