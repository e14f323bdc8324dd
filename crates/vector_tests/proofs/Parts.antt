-- The vectors of bytes, one after the other, and of a part of them. Assumes nothing.
use Rattle.std.proofs.Common.{ℕ, zero, suc, ◌+◌, ◌*◌, ◌/◌, ◌<◌, ◌≤◌, ◌≡◌, refl, sym, ap, ap₂, ◌∙◌, List, [], ◌∷◌, ◌++◌, length, take, drop, length-append, length-drop, arith}
use Rattle.std.proofs.lemmas.List.{take-append-le, drop-append-le, take-append-drop, length-take-le}
use lib.Seq.{take_at, drop_at}
use Rattle.block.specs.Block.{vectors_in, vector_list}

-- of bytes that begin with one
pub list_step : (rest w after : List ℕ) → rest ≡ w ++ after → length w ≡ 10 → vector_list rest ≡ w ∷ vector_list after
unfolding vectors_in
list_step rest w after e l =
    let n : length rest ≡ 10 + length after = ap length e ∙ length-append w after ∙ omega arith in
    let m : length rest / 10 ≡ suc (length after / 10) = omega arith in
    ap (λ (k : ℕ). vectors_in k rest) m
    ∙ ap₂ (λ (x y : List ℕ). x ∷ vectors_in (length after / 10) y) (ap (take 10) e ∙ take_at w after 10 l) (ap (drop 10) e ∙ drop_at w after 10 l)

pub list_end : (rest : List ℕ) → length rest < 10 → vector_list rest ≡ []
unfolding vectors_in
list_end rest l = let e : length rest / 10 ≡ 0 = omega arith in ap (λ (k : ℕ). vectors_in k rest) e

-- what stands behind n vectors does not matter to them
front : (n : ℕ) (xs ys : List ℕ) → 10 * n ≤ length xs → vectors_in n (xs ++ ys) ≡ vectors_in n xs
unfolding vectors_in
front zero xs ys h = refl
front (suc n) xs ys h =
    ap₂ (λ (v b : List ℕ). v ∷ vectors_in n b) (take-append-le 10 xs ys (omega arith)) (drop-append-le 10 xs ys (omega arith))
    ∙ ap (λ (vs : List (List ℕ)). take 10 xs ∷ vs) (front n (drop 10 xs) ys (omega (arith, length-drop 10 xs)))

-- of n of them, from one on
pub list_part : (n : ℕ) (bytes : List ℕ) → 10 * n ≤ length bytes → vector_list (take (10 * n) bytes) ≡ vectors_in n bytes
list_part n bytes h =
    let l : length (take (10 * n) bytes) ≡ 10 * n = length-take-le (10 * n) bytes h in
    let m : length (take (10 * n) bytes) / 10 ≡ n = omega arith in
    ap (λ (k : ℕ). vectors_in k (take (10 * n) bytes)) m
    ∙ sym (front n (take (10 * n) bytes) (drop (10 * n) bytes) (omega arith))
    ∙ ap (vectors_in n) (take-append-drop (10 * n) bytes)
