-- How many elements of a list pass a test. Assumes nothing.
use Prim.Native.Nat.{ℕ, zero-le, ◌+◌, ◌≤◌}
use mathlib.Core.Path.{◌≡◌, sym, ap, ◌∙◌}
use mathlib.Core.Bool.{Bool, true, false, cond}
use mathlib.Core.List.{List, [], ◌∷◌, ◌++◌}
use native.Mathlib.Omega.{arith}
use native.Mathlib.Nat.{zero-add, add_assoc}
use lib.ListN.{length}
use Rattle.bits.specs.Lists.{how_many}

pub one_le : (b : Bool) → cond b 1 0 ≤ 1
one_le true = omega arith
one_le false = omega arith

-- not more than there are
pub how_few : {A : Type 0} (test : A → Bool) (xs : List A) → how_many test xs ≤ length xs
unfolding how_many
how_few test [] = zero-le
how_few test (x ∷ xs) = omega (arith, one_le (test x), how_few test xs)

-- of two lists, one after the other
pub many_append : {A : Type 0} (test : A → Bool) (xs ys : List A) → how_many test (xs ++ ys) ≡ how_many test xs + how_many test ys
unfolding how_many
many_append test [] ys = sym (zero-add (how_many test ys))
many_append test (x ∷ xs) ys =
    ap (λ (n : ℕ). cond (test x) 1 0 + n) (many_append test xs ys) ∙ sym (add_assoc (cond (test x) 1 0) (how_many test xs) (how_many test ys))
