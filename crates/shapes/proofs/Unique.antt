-- What two shapes that meet the promise make of a block.
use mathlib.Core.Path.{◌≡◌, ◌∙◌, sym}
use mathlib.Core.Bool.{true}
use Prim.Native.Nat.{ℕ}
use lib.Bits.{bit_and}
use lib.Dec.{eqb}
use borrow.Author.Tests.{eqb-true}
use Rattle.block.specs.declared.Edition.TheVariants.{Old}
use Rattle.shapes.specs.declared.Shape.{Shape}
use Rattle.shapes.specs.Shapes.{Shapes}
use Rattle.shapes.proofs.Quickly.{words, quickly}

-- `shape_of`: any two shapes of a number make the same of a block that both take
pub shape_of_unique : (h x n : ℕ) (s s' : Shape) → Shapes n s → Shapes n s' → h ≡ s.header → h ≡ s'.header
    → eqb (bit_and x s.codes) s.first ≡ true → eqb (bit_and x s'.codes) s'.first ≡ true → (s.class ≡ s'.class) × (words s x ≡ words s' x)
shape_of_unique h x n s s' p q e e' t t' =
    let a = quickly h x n s p e (eqb-true (bit_and x s.codes) s.first t) Old in
    let b = quickly h x n s' q e' (eqb-true (bit_and x s'.codes) s'.first t') Old in
    (a.0 ∙ sym b.0, a.1 ∙ sym b.1)
