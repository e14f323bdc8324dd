-- The frames that are received are those that were sent: by demand 2, and since no control vector has a Start. Assumes nothing.
use Prim.Native.Nat.{ℕ, zero, suc, ◌+◌, ◌-◌, ◌/◌, ◌≤◌}
use mathlib.Core.Path.{◌≡◌, refl, sym, ap, ◌∙◌, subst}
use mathlib.Core.Bool.{true, false}
use mathlib.Core.List.{List, [], ◌∷◌, ◌++◌, flatten}
use native.Mathlib.Omega.{arith}
use lib.ListN.{length, take, drop, replicate, length-append, length-drop}
use lib.Seq.{drop_at}
use Rattle.block.specs.declared.Edition.{Edition}
use Rattle.block.specs.Block.{edition_of, local_fault_vector, vectors_in}
use Rattle.block.proofs.Carried.{kind_of_fault}
use Rattle.demands.specs.Words.{control_vector, control_vectors}
use Rattle.demands.specs.Demand2.{faults}
use Rattle.demands.proofs.Demand2.{demand_2}
use Rattle.frames.specs.Frames.{words_in, word_list, starts, frames_of}
use Rattle.block.proofs.Vectors.{length_vectors, take_vectors}
use Rattle.sent_frames.specs.SentFrames.{FramesReturn}
use Rattle.sent_frames.proofs.Words.{NoStarts, passed_both, words_append, length_words, control_none}

-- Local Fault vectors are control vectors
faults_control : (ed : Edition) (n : ℕ) (rest : List ℕ) → control_vectors ed (vectors_in n (flatten (replicate n local_fault_vector) ++ rest)) ≡ true
unfolding control_vectors control_vector vectors_in flatten
faults_control ed zero rest = refl
faults_control ed (suc n) rest = rw (kind_of_fault ed) (faults_control ed n rest)

none_split : (xs : List (List ℕ)) (y : List ℕ) (ys : List (List ℕ)) → NoStarts (xs ++ y ∷ ys) → NoStarts xs × (starts y ≡ false)
none_split [] y ys n = (tt, n.0)
none_split (x ∷ xs) y ys n = let q = none_split xs y ys n.1 in ((n.0, q.0), q.1)

-- Bytes whose first 126 words have no Start, and whose word 126 has none: others in place of the first 126 words, without a Start too, change no frame.
replaced : (bytes first : List ℕ) → 640 ≤ length bytes → length first ≡ 630 → NoStarts (words_in 128 bytes) → NoStarts (words_in 126 (first ++ drop 630 bytes))
    → frames_of (word_list (first ++ drop 630 bytes)) ≡ frames_of (word_list bytes)
unfolding words_in
replaced bytes first long six none other =
    let m = length bytes / 5 - 127 in
    let tail = drop 630 bytes in
    let a : length (first ++ tail) ≡ length bytes = length-append first tail ∙ omega (arith, length-drop 630 bytes) in
    let b : length bytes / 5 ≡ 126 + suc m = omega arith in
    let c : drop 630 (first ++ tail) ≡ tail = drop_at first tail 630 six in
    let e : word_list (first ++ tail) ≡ words_in 126 (first ++ tail) ++ words_in (suc m) tail =
    ap (λ (n : ℕ). words_in (n / 5) (first ++ tail)) a ∙ ap (λ (n : ℕ). words_in n (first ++ tail)) b ∙ words_append 126 (suc m) (first ++ tail)
    ∙ ap (λ (l : List ℕ). words_in 126 (first ++ tail) ++ words_in (suc m) l) c in
    let f : word_list bytes ≡ words_in 126 bytes ++ words_in (suc m) tail = ap (λ (n : ℕ). words_in n bytes) b ∙ words_append 126 (suc m) bytes in
    let g = none_split (words_in 126 bytes) (take 5 tail) (words_in 1 (drop 5 tail)) (subst NoStarts (words_append 126 2 bytes) none) in
    ap frames_of e
    ∙ passed_both (words_in 126 (first ++ tail)) (words_in 126 bytes) (take 5 tail) (words_in m (drop 5 tail)) other g.0
    (length_words 126 (first ++ tail) ∙ sym (length_words 126 bytes)) g.1
    ∙ sym (ap frames_of f)

pub frames_return : FramesReturn
unfolding flatten
frames_return edition bytes start room ok can =
    let ed = edition_of edition in
    let long : 640 ≤ length bytes = omega (arith, can.long, length_vectors (length bytes / 10) bytes) in
    let n : NoStarts (words_in 128 bytes) =
    control_none ed 64 bytes (ap (control_vectors ed) (sym (take_vectors 64 (length bytes / 10) bytes (omega arith))) ∙ can.starts_with_control) in
    ap (λ (l : List ℕ). frames_of (word_list l)) (demand_2 edition bytes start room ok can).octets
    ∙ replaced bytes (flatten faults) long refl n (control_none ed 63 (flatten faults ++ drop 630 bytes) (faults_control ed 63 (drop 630 bytes)))
