-- Any two answers that meet a public function's promise are equal.
use mathlib.Core.Path.{◌≡◌, ◌∙◌, sym}
use Prim.Native.Nat.{ℕ}
use lib.ListN.{get_or}
use Rattle.block.specs.declared.Edition.{Edition}
use Rattle.block.specs.declared.Kind.{Kind}
use Rattle.block.specs.Block.{edition_of, kind_for}
use Rattle.block.specs.Rows.{row}
use Rattle.block.specs.Types.{types}
use Rattle.vectors.specs.declared.Vector.{Vector}
use Rattle.vectors.specs.Vector.{vector_bytes}

pub type_row_unique : (y r r' : ℕ) → r ≡ get_or types y 0 → r' ≡ get_or types y 0 → r ≡ r'
type_row_unique y r r' p q = p ∙ sym q

pub kind_of_unique : (r : ℕ) (v : Vector) (k k' : Kind) → k ≡ kind_for (row r) (vector_bytes v) → k' ≡ kind_for (row r) (vector_bytes v) → k ≡ k'
kind_of_unique r v k k' p q = p ∙ sym q

pub edition_of_unique : (n : ℕ) (r r' : Edition) → r ≡ edition_of n → r' ≡ edition_of n → r ≡ r'
edition_of_unique n r r' p q = p ∙ sym q
