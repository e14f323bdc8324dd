-- Counts by an entry and the vectors after it. Assumes nothing.
use Prim.Native.Nat.{ℕ, ◌+◌, ◌*◌, ◌/◌, ◌%◌, ◌-◌, ◌≤◌, min}
use mathlib.Core.Path.{◌≡◌, sym, ap, ap₂, ◌∙◌}
use mathlib.Core.Bool.{Bool}
use mathlib.Core.List.{List}
use native.Mathlib.Omega.{arith}
use native.Mathlib.Nat.{min-eq_left, min-le_left}
use lib.ListN.{length, take, drop, length-take, length-drop}
use lib.Seq.{take-add}
use Rattle.bits.specs.Lists.{how_many}
use Rattle.bits.proofs.HowMany.{many_append, how_few}
use Rattle.block.specs.Block.{vectors_in, vector_list}
use Rattle.block.proofs.Vectors.{part_vectors}
use Rattle.vector_tests.proofs.Parts.{list_part}
use Rattle.index_count.specs.Counting.{full_count, count_up_to, count_between}

-- ---- as the code reads it

-- the vectors after an entry, as a part of the bytes
pub part : (bytes : List ℕ) (a m n : ℕ) → a ≤ length bytes / 10 → n ≡ 640 * (a / 64) → m ≡ 10 * (a % 64)
    → vector_list (take m (drop n bytes)) ≡ vectors_in (a % 64) (drop (10 * (64 * (a / 64))) bytes)
part bytes a m n l e f =
    let g : n ≡ 10 * (64 * (a / 64)) = omega arith in
    ap₂ (λ (x y : ℕ). vector_list (take x (drop y bytes))) f g
    ∙ list_part (a % 64) (drop (10 * (64 * (a / 64))) bytes) (omega (arith, length-drop (10 * (64 * (a / 64))) bytes))

-- an entry's number and that of these
pub up_to : (test : List ℕ → Bool) (number_at : ℕ → ℕ) (bytes : List ℕ) (a x n : ℕ) → a ≤ length bytes / 10 → x ≡ number_at (a / 64)
    → n ≡ how_many test (vectors_in (a % 64) (drop (10 * (64 * (a / 64))) bytes)) → x + n ≡ count_up_to test number_at (vector_list bytes) a
up_to test number_at bytes a x n h e f =
    ap₂ ◌+◌ e (f ∙ ap (how_many test) (sym (part_vectors (a % 64) (64 * (a / 64)) (length bytes / 10) bytes (omega arith))))

-- ---- with the numbers of an index that was built

module _ (test : List ℕ → Bool) (number_at : ℕ → ℕ) (vs : List (List ℕ)) where
  -- up to one end
  up_to_built : (a : ℕ) → number_at (a / 64) ≡ how_many test (take (64 * (a / 64)) vs) → count_up_to test number_at vs a ≡ how_many test (take a vs)
  up_to_built a e =
      let d : 64 * (a / 64) + a % 64 ≡ a = omega arith in
      ap (λ (n : ℕ). n + how_many test (take (a % 64) (drop (64 * (a / 64)) vs))) e
      ∙ sym (many_append test (take (64 * (a / 64)) vs) (take (a % 64) (drop (64 * (a / 64)) vs)))
      ∙ ap (how_many test) (sym (take-add (64 * (a / 64)) (a % 64) vs) ∙ ap (λ (n : ℕ). take n vs) d)

  pub between_built : (a b : ℕ) → a ≤ b → number_at (a / 64) ≡ how_many test (take (64 * (a / 64)) vs) → number_at (b / 64) ≡ how_many test (take (64 * (b / 64)) vs)
      → count_between test number_at vs a b ≡ full_count test vs a b
  between_built a b l e f =
      let d : a + (b - a) ≡ b = omega arith in
      let s : how_many test (take b vs) ≡ how_many test (take a vs) + full_count test vs a b =
      ap (λ (n : ℕ). how_many test (take n vs)) (sym d) ∙ ap (how_many test) (take-add a (b - a) vs) ∙ many_append test (take a vs) (take (b - a) (drop a vs)) in
      let few : full_count test vs a b ≤ b - a =
      omega (arith, how_few test (take (b - a) (drop a vs)), length-take (b - a) (drop a vs), min-le_left (b - a) (length (drop a vs))) in
      let m : how_many test (take b vs) - how_many test (take a vs) ≡ full_count test vs a b = omega arith in
      ap₂ (λ (x y : ℕ). min (x - y) (b - a)) (up_to_built b f) (up_to_built a e) ∙ ap (λ (n : ℕ). min n (b - a)) m ∙ min-eq_left few
