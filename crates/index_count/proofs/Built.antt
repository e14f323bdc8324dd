-- What a count is worth, proved over the definitions. Assumes nothing.
use Prim.Native.Nat.{ℕ, ◌-◌, ◌/◌, ◌≤◌}
use mathlib.Core.Path.{◌≡◌, refl, sym, ap₂, ◌∙◌}
use mathlib.Core.Bool.{Bool, true, false, ◌||◌}
use mathlib.Core.List.{List, [], ◌∷◌}
use native.Mathlib.Omega.{arith}
use native.Mathlib.Nat.{min-le_right}
use lib.Dec.{ltb}
use lib.ListN.{length}
use borrow.Author.Tests.{ltb-false}
use Rattle.refusals.specs.First.{check, Verdict, accepted, first, by_verdict}
use Rattle.refusals.specs.First as First
use Rattle.refusals.proofs.Laws.{passed, first_append}
use Rattle.block.specs.Block.{is_error_vector, vector_list}
use Rattle.block.proofs.Vectors.{length_vectors}
use Rattle.vector_checks.specs.Checks.{vector_checks}
use Rattle.vector_checks.proofs.Laws.{short}
use Rattle.vector_tests.specs.Tests.{of_kind_s}
use Rattle.index.specs.Index.{index_for, errors_at, starts_at}
use Rattle.index.specs.Answer.{wrong_length}
use Rattle.index.proofs.Reading.{errors_built, starts_built}
use Rattle.index_count.specs.Counting.{count_between}
use Rattle.index_count.specs.Answer.{counts, refused, count_checks, counts_with, count_answer}
use Rattle.index_count.specs.Built.{CountsAll, CountsWithin}
use Rattle.index_count.proofs.Counts.{between_built}

-- ---- of an index that was built

-- accepted vectors, and a range within them
record Fine (bytes : List ℕ) (a b : ℕ) : Type 0 where
  few : length (vector_list bytes) ≤ 100000
  order : a ≤ b
  inside : b ≤ length (vector_list bytes)

fine : (bytes index : List ℕ) (a b : ℕ) → first (count_checks bytes (length index) a b) ≡ accepted → Fine bytes a b
unfolding count_checks
fine bytes index a b e =
    both (first (vector_checks bytes)) refl (sym (first_append (vector_checks bytes) _) ∙ e)
  where
    tests : (x y z : Bool) → (x || y || z) ≡ false → (x ≡ false) × (y ≡ false)
    tests true y z e = absurd (let q : ◌≡◌ {A = ℕ} 0 1 = cc in omega arith)
    tests false true z e = absurd (let q : ◌≡◌ {A = ℕ} 0 1 = cc in omega arith)
    tests false false z e = (refl, refl)

    both : (v : Verdict) → first (vector_checks bytes) ≡ v → by_verdict v (first (check 11 (ltb b a || ltb (length (vector_list bytes)) b || wrong_length bytes (length index)) ∷ [])) First.refused ≡ accepted → Fine bytes a b
    both (First.refused n p) s q = absurd (let z : ◌≡◌ {A = ℕ} 0 1 = cc in omega arith)
    both accepted s q =
        let t = tests (ltb b a) (ltb (length (vector_list bytes)) b) (wrong_length bytes (length index)) (passed _ _ q).0 in
        record {
          few = omega (arith, short bytes s, length_vectors (length bytes / 10) bytes);
          order = ltb-false b a t.0;
          inside = ltb-false (length (vector_list bytes)) b t.1;
        }

-- an answer depends on what success gives only where it is one
by_verdict_lem : {A : Type 0} (v : Verdict) (x y : A) (f : ℕ → ℕ → A) → (v ≡ accepted → x ≡ y) → by_verdict v x f ≡ by_verdict v y f
by_verdict_lem accepted x y f e = e refl
by_verdict_lem (First.refused n p) x y f e = refl

pub counts_all : CountsAll
unfolding count_answer
counts_all bytes a b =
    by_verdict_lem (first (count_checks bytes (length (index_for vs)) a b)) _ _ refused
    (λ ok.
    let f = fine bytes (index_for vs) a b ok in
    ap₂ counts
    (between_built is_error_vector (errors_at (index_for vs)) vs a b f.order (errors_built vs f.few (a / 64) (omega (arith, f.order, f.inside))) (errors_built vs f.few (b / 64) (omega (arith, f.inside))))
    (between_built of_kind_s (starts_at (index_for vs)) vs a b f.order (starts_built vs f.few (a / 64) (omega (arith, f.order, f.inside))) (starts_built vs f.few (b / 64) (omega (arith, f.inside)))))
  where
    vs : List (List ℕ)
    vs = vector_list bytes

-- ---- of any index

pub counts_within : CountsWithin
unfolding count_answer
counts_within bytes index a b errors starts q = go (first (count_checks bytes (length index) a b)) q
  where
    held : (test : List ℕ → Bool) (number_at : ℕ → ℕ) → count_between test number_at (vector_list bytes) a b ≤ b - a
    held test number_at = min-le_right _ (b - a)

    go : (v : Verdict) → by_verdict v (counts_with bytes index a b) refused ≡ counts errors starts → (errors ≤ b - a) × (starts ≤ b - a)
    go (First.refused n p) e = absurd (let z : ◌≡◌ {A = ℕ} 0 1 = cc in omega arith)
    go accepted e =
        let p : count_between is_error_vector (errors_at index) (vector_list bytes) a b ≡ errors = cc in
        let r : count_between of_kind_s (starts_at index) (vector_list bytes) a b ≡ starts = cc in
        (rw p at (held is_error_vector (errors_at index)), rw r at (held of_kind_s (starts_at index)))
