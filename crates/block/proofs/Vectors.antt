-- The vectors of a list of bytes. Assumes nothing.
use Prim.Native.Nat.{ℕ, zero, suc, ◌+◌, ◌*◌, ◌-◌, ◌≤◌}
use mathlib.Core.Path.{◌≡◌, refl, ap, ap₂, ◌∙◌}
use mathlib.Core.List.{List, [], ◌∷◌, ◌++◌, append_assoc, flatten}
use native.Mathlib.Omega.{arith}
use native.Mathlib.Nat.{zero-add}
use lib.ListN.{length, take, drop, length-append}
use lib.Seq.{drop-drop, take_at, drop_at}
use Rattle.block.specs.Block.{vectors_in}

-- the first j, and the k after them
pub vectors_add : (j k : ℕ) (bytes : List ℕ) → vectors_in (j + k) bytes ≡ vectors_in j bytes ++ vectors_in k (drop (10 * j) bytes)
unfolding vectors_in
vectors_add zero k bytes = ap (λ (n : ℕ). vectors_in n bytes) (zero-add k)
vectors_add (suc j) k bytes =
    let e : suc j + k ≡ suc (j + k) = omega arith in
    let d : 10 + 10 * j ≡ 10 * suc j = omega arith in
    ap (λ (n : ℕ). vectors_in n bytes) e
    ∙ ap (λ (vs : List (List ℕ)). take 10 bytes ∷ vs)
    (vectors_add j k (drop 10 bytes)
    ∙ ap (λ (l : List ℕ). vectors_in j (drop 10 bytes) ++ vectors_in k l) (drop-drop (10 * j) 10 bytes ∙ ap (λ (n : ℕ). drop n bytes) d))

pub length_vectors : (k : ℕ) (bytes : List ℕ) → length (vectors_in k bytes) ≡ k
unfolding vectors_in
length_vectors zero bytes = refl
length_vectors (suc k) bytes = ap suc (length_vectors k (drop 10 bytes))

-- the vectors after the first n are those of the bytes after the first 10 n
pub drop_vectors : (n k : ℕ) (bytes : List ℕ) → n ≤ k → drop n (vectors_in k bytes) ≡ vectors_in (k - n) (drop (10 * n) bytes)
unfolding vectors_in
drop_vectors zero k bytes h = let e : k ≡ k - 0 = omega arith in ap (λ (m : ℕ). vectors_in m bytes) e
drop_vectors (suc n) zero bytes h = absurd (omega arith)
drop_vectors (suc n) (suc k) bytes h =
    let e : k - n ≡ suc k - suc n = omega arith in
    let f : 10 + 10 * n ≡ 10 * suc n = omega arith in
    drop_vectors n k (drop 10 bytes) (omega arith)
    ∙ ap₂ vectors_in e (drop-drop (10 * n) 10 bytes ∙ ap (λ (m : ℕ). drop m bytes) f)

-- the first n of k vectors
pub take_vectors : (n k : ℕ) (bytes : List ℕ) → n ≤ k → take n (vectors_in k bytes) ≡ vectors_in n bytes
unfolding vectors_in
take_vectors zero k bytes l = refl
take_vectors (suc n) zero bytes l = absurd (omega arith)
take_vectors (suc n) (suc k) bytes l = ap (λ (vs : List (List ℕ)). take 10 bytes ∷ vs) (take_vectors n k (drop 10 bytes) (omega arith))

-- m of k vectors, from vector a on
pub part_vectors : (m a k : ℕ) (bytes : List ℕ) → a + m ≤ k → take m (drop a (vectors_in k bytes)) ≡ vectors_in m (drop (10 * a) bytes)
part_vectors m a k bytes h = ap (take m) (drop_vectors a k bytes (omega arith)) ∙ take_vectors m (k - a) (drop (10 * a) bytes) (omega arith)

-- ---- lists of vectors of ten bytes each

abbrev pub Tens : List (List ℕ) → Type 0
Tens [] = Unit
Tens (v ∷ vs) = (length v ≡ 10) × Tens vs

-- they can be told apart in their bytes
pub vectors_in_lem : (vs : List (List ℕ)) (rest : List ℕ) → Tens vs → vectors_in (length vs) (flatten vs ++ rest) ≡ vs
unfolding vectors_in flatten
vectors_in_lem [] rest w = refl
vectors_in_lem (v ∷ vs) rest w =
    let e : (v ++ flatten vs) ++ rest ≡ v ++ (flatten vs ++ rest) = append_assoc v (flatten vs) rest in
    ap₂ ◌∷◌ (ap (take 10) e ∙ take_at v (flatten vs ++ rest) 10 w.0)
    (ap (λ (bytes : List ℕ). vectors_in (length vs) bytes) (ap (drop 10) e ∙ drop_at v (flatten vs ++ rest) 10 w.0) ∙ vectors_in_lem vs rest w.1)

pub length_tens : (vs : List (List ℕ)) → Tens vs → length (flatten vs) ≡ 10 * length vs
unfolding flatten
length_tens [] w = refl
length_tens (v ∷ vs) w = length-append v (flatten vs) ∙ omega (arith, w.0, length_tens vs w.1)
