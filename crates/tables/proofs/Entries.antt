-- The table of types as the code has it: each entry is the row of its byte, and stands in its word.
use mathlib.Core.Path.{◌≡◌}
use mathlib.Core.Bool.{Bool, ◌&&◌}
use mathlib.Core.Logic.{◌⊎◌, inl, inr}
use Prim.Native.Nat.{ℕ, suc, ◌*◌, ◌/◌, ◌%◌, ◌^◌, ◌<◌}
use native.Mathlib.Nat.{le_of_suc-le-suc, eq-or-lt_of_le}
use lib.Dec.{T, eqb, eqb→eq}
use lib.ListN.{get_or}
use Rattle.block.specs.Rows.{row_of}
use Rattle.block.specs.Types.{types}
use Rattle.bits.proofs.Tests.{both_left, both_right, each, at}
use Rattle.tables.specs.Tables.{type_word}

-- each entry is the row of its byte, and stands in its word
stands : ℕ → Bool
stands y = eqb (get_or types y 0) (row_of y % 16) && eqb (type_word (y / 16) / 2 ^ (4 * (y % 16)) % 16) (get_or types y 0)

all_stand : T (each stands 0 256)
unfolding stands types type_word
all_stand = tt

module _ (y : ℕ) (h : y < 256) where
  pub type_at : get_or types y 0 ≡ row_of y % 16
  unfolding stands
  type_at = eqb→eq (get_or types y 0) (row_of y % 16) (both_left (eqb (get_or types y 0) (row_of y % 16)) _ (at stands 256 all_stand y h))

  pub word_at : type_word (y / 16) / 2 ^ (4 * (y % 16)) % 16 ≡ get_or types y 0
  unfolding stands
  word_at = eqb→eq (type_word (y / 16) / 2 ^ (4 * (y % 16)) % 16) (get_or types y 0) (both_right (eqb (get_or types y 0) (row_of y % 16)) _ (at stands 256 all_stand y h))

-- a number below a bound that is not the greatest
pub down : {k n : ℕ} → n < suc k → (n ≡ k → ⊥) → n < k
down {k} {n} l d = go (eq-or-lt_of_le (le_of_suc-le-suc l))
  where
    go : (n ≡ k) ⊎ (n < k) → n < k
    go (inl e) = absurd (d e)
    go (inr h) = h
