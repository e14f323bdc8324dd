-- The n-th error vector of a list. Assumes nothing.
use Rattle.std.specs.Prelude.{None, Some}
use Prim.Native.Nat.{ℕ, suc, ◌+◌, ◌*◌, ◌/◌, ◌-◌, ◌≤◌, ◌<◌, min}
use mathlib.Core.Path.{◌≡◌, refl, sym, ap, ◌∙◌}
use mathlib.Core.Bool.{true, false}
use mathlib.Core.List.{List, [], ◌∷◌, ◌++◌}
use native.Mathlib.Omega.{arith}
use native.Mathlib.Nat.{zero-add, min-eq_left, min-eq_right}
use lib.ListN.{length, get_or, take, drop, length-append}
use lib.Seq.{take_all}
use lib.Dec.{eqb}
use borrow.Author.Tests.{eqb-true, eqb-false, ne_eqb}
use Rattle.refusals.proofs.Laws.{by_test}
use Rattle.bits.specs.Lists.{how_many}
use Rattle.bits.proofs.Laws.{by_lt}
use Rattle.block.specs.Block.{vectors_in, vector_list, is_error_vector}
use Rattle.block.proofs.Vectors.{length_vectors, drop_vectors, take_vectors}
use Rattle.vector_tests.proofs.Parts.{list_step, list_end}
use Rattle.index_search.specs.Search.{before_nth, after_entry}
use Rattle.index_search.specs.Parts.{IsNth}
use Rattle.index_search.specs.Built.{FindsNth}

-- ---- one vector

-- this one; an error vector passed; another
nth_here : (v : List ℕ) (vs : List (List ℕ)) → is_error_vector v ≡ true → before_nth 1 (v ∷ vs) ≡ 0
unfolding before_nth
nth_here v vs e = rw e

nth_next : (n : ℕ) (v : List ℕ) (vs : List (List ℕ)) → is_error_vector v ≡ true → (n ≡ 1 → ⊥) → before_nth n (v ∷ vs) ≡ suc (before_nth (n - 1) vs)
unfolding before_nth
nth_next n v vs e d = rw (e, ne_eqb n 1 d)

nth_other : (n : ℕ) (v : List ℕ) (vs : List (List ℕ)) → is_error_vector v ≡ false → before_nth n (v ∷ vs) ≡ suc (before_nth n vs)
unfolding before_nth
nth_other n v vs e = let z : n - 0 ≡ n = omega arith in rw e (ap (λ (m : ℕ). suc (before_nth m vs)) z)

count_one : (v : List ℕ) (vs : List (List ℕ)) → is_error_vector v ≡ true → how_many is_error_vector (v ∷ vs) ≡ 1 + how_many is_error_vector vs
unfolding how_many
count_one v vs e = rw e

count_other : (v : List ℕ) (vs : List (List ℕ)) → is_error_vector v ≡ false → how_many is_error_vector (v ∷ vs) ≡ how_many is_error_vector vs
unfolding how_many
count_other v vs e = rw e (zero-add (how_many is_error_vector vs))

pub count_nil : how_many is_error_vector [] ≡ 0
unfolding how_many
count_nil = refl

nth_nil : (n : ℕ) → before_nth n [] ≡ 0
unfolding before_nth
nth_nil n = refl

-- ---- lists

-- 0 has none
pub nth_zero : (vs : List (List ℕ)) → before_nth 0 vs ≡ length vs
nth_zero [] = nth_nil 0
nth_zero (v ∷ vs) =
    by_test (is_error_vector v)
    (λ e. nth_next 0 v vs e (λ q. omega arith) ∙ ap suc (nth_zero vs))
    (λ e. nth_other 0 v vs e ∙ ap suc (nth_zero vs))

-- past a list with too few of them
pub nth_skip : (n : ℕ) (xs ys : List (List ℕ)) → how_many is_error_vector xs < n → before_nth n (xs ++ ys) ≡ length xs + before_nth (n - how_many is_error_vector xs) ys
nth_skip n [] ys h =
    let e : n ≡ n - how_many is_error_vector [] = omega (arith, count_nil) in
    ap (λ (m : ℕ). before_nth m ys) e ∙ sym (zero-add _)
nth_skip n (x ∷ xs) ys h =
    by_test (is_error_vector x)
    (λ e.
    let c = count_one x xs e in
    let d : n - 1 - how_many is_error_vector xs ≡ n - how_many is_error_vector (x ∷ xs) = omega arith in
    nth_next n x (xs ++ ys) e (λ q. omega arith) ∙ ap suc (nth_skip (n - 1) xs ys (omega arith)) ∙ ap (λ (m : ℕ). suc (length xs + before_nth m ys)) d ∙ omega arith)
    (λ e.
    let c = count_other x xs e in
    nth_other n x (xs ++ ys) e ∙ ap suc (nth_skip n xs ys (omega arith)) ∙ ap (λ (m : ℕ). suc (length xs + before_nth (n - m) ys)) (sym c) ∙ omega arith)

-- within a list with enough of them
pub nth_stop : (n : ℕ) (xs ys : List (List ℕ)) → 0 < n → n ≤ how_many is_error_vector xs → (before_nth n (xs ++ ys) ≡ before_nth n xs) × (before_nth n xs < length xs)
nth_stop n [] ys p h = absurd (omega (arith, count_nil))
nth_stop n (x ∷ xs) ys p h =
    by_test (is_error_vector x)
    (λ e.
    by_test (eqb n 1)
    (λ t.
    let o : n ≡ 1 = eqb-true n 1 t in
    let a : (zs : List (List ℕ)) → before_nth n (x ∷ zs) ≡ 0 = λ zs. ap (λ (m : ℕ). before_nth m (x ∷ zs)) o ∙ nth_here x zs e in
    (a (xs ++ ys) ∙ sym (a xs), omega (arith, a xs)))
    (λ t.
    let o = eqb-false n 1 t in
    let r = nth_stop (n - 1) xs ys (omega arith) (omega (arith, count_one x xs e)) in
    (nth_next n x (xs ++ ys) e o ∙ ap suc r.0 ∙ sym (nth_next n x xs e o), omega (arith, nth_next n x xs e o, r.1))))
    (λ e.
    let r = nth_stop n xs ys p (omega (arith, count_other x xs e)) in
    (nth_other n x (xs ++ ys) e ∙ ap suc r.0 ∙ sym (nth_other n x xs e), omega (arith, nth_other n x xs e, r.1)))

-- ---- that it is right

nth_is : (n : ℕ) (vs : List (List ℕ)) → before_nth n vs < length vs
    → (is_error_vector (get_or vs (before_nth n vs) []) ≡ true) × (how_many is_error_vector (take (before_nth n vs) vs) + 1 ≡ n)
nth_is n [] h = absurd (omega arith)
nth_is n (v ∷ vs) h =
    by_test (is_error_vector v)
    (λ e.
    by_test (eqb n 1)
    (λ t.
    let o : n ≡ 1 = eqb-true n 1 t in
    let z : before_nth n (v ∷ vs) ≡ 0 = ap (λ (m : ℕ). before_nth m (v ∷ vs)) o ∙ nth_here v vs e in
    rw z (e, omega (arith, count_nil)))
    (λ t.
    let o = eqb-false n 1 t in
    let s = nth_next n v vs e o in
    let r = nth_is (n - 1) vs (omega arith) in
    rw s (r.0, omega (arith, r.1, count_one v (take (before_nth (n - 1) vs) vs) e))))
    (λ e.
    let s = nth_other n v vs e in
    let r = nth_is n vs (omega arith) in
    rw s (r.0, omega (arith, r.1, count_other v (take (before_nth n vs) vs) e)))

pub finds_nth : FindsNth
finds_nth n vs = (nth_is n vs, λ p h. (nth_stop n vs [] p h).1)

-- ---- as the code looks for it

-- after i vectors of the bytes, `left` are left to find in the rest
pub record Looking (bytes rest : List ℕ) (n left i : ℕ) : Type 0 where
  pub far : 10 * i + length rest ≡ length bytes
  pub so_far : before_nth n (vector_list bytes) ≡ i + before_nth left (vector_list rest)

pub look_first : (bytes : List ℕ) (n : ℕ) → Looking bytes bytes n n 0
look_first bytes n = record { far = omega arith; so_far = sym (zero-add _) }

module _ (bytes rest : List ℕ) (n left i : ℕ) (l : Looking bytes rest n left i) where
  pub look_none : length rest < 10 → IsNth n (vector_list bytes) None
  look_none h =
      let e = ap (before_nth left) (list_end rest h) ∙ nth_nil left in
      omega (arith, l.so_far, l.far, e, length_vectors (length bytes / 10) bytes)

  module _ (w after : List ℕ) (e : rest ≡ w ++ after) (t : length w ≡ 10) where
    split : before_nth n (vector_list bytes) ≡ i + before_nth left (w ∷ vector_list after)
    split = l.so_far ∙ ap (λ (vs : List (List ℕ)). i + before_nth left vs) (list_step rest w after e t)

    on : 10 * (i + 1) + length after ≡ length bytes
    on = omega (arith, l.far, ap length e, length-append w after)

    pub look_found : is_error_vector w ≡ true → left ≡ 1 → IsNth n (vector_list bytes) (Some i)
    look_found x o =
        let f = ap (λ (k : ℕ). before_nth k (w ∷ vector_list after)) o ∙ nth_here w (vector_list after) x in
        (omega (arith, on, length_vectors (length bytes / 10) bytes), omega (arith, split, f))

    pub look_next : is_error_vector w ≡ true → (left ≡ 1 → ⊥) → Looking bytes after n (left - 1) (i + 1)
    look_next x o = record { far = on; so_far = omega (arith, split, nth_next left w (vector_list after) x o) }

    pub look_other : is_error_vector w ≡ false → Looking bytes after n left (i + 1)
    look_other x = record { far = on; so_far = omega (arith, split, nth_other left w (vector_list after) x) }

-- the at most 64 vectors after an entry, as they stand in the bytes
pub after_vectors : (bytes : List ℕ) (k m : ℕ) → 64 * k ≤ length bytes / 10 → m ≡ min 64 (length bytes / 10 - 64 * k)
    → after_entry (vector_list bytes) k ≡ vectors_in m (drop (10 * (64 * k)) bytes)
after_vectors bytes k m h e =
    let n = length bytes / 10 - 64 * k in
    ap (take 64) (drop_vectors (64 * k) (length bytes / 10) bytes h)
    ∙ by_lt n 64
    (λ l.
    take_all 64 (vectors_in n (drop (10 * (64 * k)) bytes)) (omega (arith, length_vectors n (drop (10 * (64 * k)) bytes)))
    ∙ ap (λ (i : ℕ). vectors_in i (drop (10 * (64 * k)) bytes)) (sym (e ∙ min-eq_right (omega arith))))
    (λ l.
    take_vectors 64 n (drop (10 * (64 * k)) bytes) l ∙ ap (λ (i : ℕ). vectors_in i (drop (10 * (64 * k)) bytes)) (sym (e ∙ min-eq_left l)))
