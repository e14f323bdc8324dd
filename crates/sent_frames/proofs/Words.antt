-- Words without a Start begin no frame, and are passed. Assumes nothing.
use Prim.Native.Nat.{ℕ, zero, suc, ◌+◌, ◌*◌}
use mathlib.Core.Path.{◌≡◌, refl, sym, ap, ◌∙◌}
use mathlib.Core.Bool.{Bool, true, false, cond, ◌&&◌, and-false}
use mathlib.Core.List.{List, [], ◌∷◌, ◌++◌}
use native.Mathlib.Omega.{arith}
use lib.ListN.{length, take, drop}
use lib.Seq.{drop-drop}
use Rattle.block.specs.declared.Edition.{Edition}
use Rattle.demands.specs.Words.{control_vector, control_vectors}
use Rattle.frames.specs.Frames.{words_in, quiet, starts, up_to_end, after_start, frames_from}
use Rattle.frames.proofs.Quiet.{and_both}
use Rattle.block.specs.Block.{vectors_in}
use Rattle.sent_frames.proofs.Control.{first_none, second_none}

-- no word has a Start
abbrev pub NoStarts : List (List ℕ) → Type 0
NoStarts [] = Unit
NoStarts (w ∷ ws) = (starts w ≡ false) × NoStarts ws

-- whether a frame may begin after them
abbrev quiet_after : Bool → List (List ℕ) → Bool
quiet_after b [] = b
quiet_after b (w ∷ ws) = quiet_after (quiet w) ws

-- one such word
pub passed_one : (b : Bool) (k : ℕ) (w : List ℕ) (ws : List (List ℕ)) → starts w ≡ false → frames_from b k (w ∷ ws) ≡ frames_from (quiet w) (k + 1) ws
unfolding frames_from
passed_one b k w ws e =
    ap (λ (s : Bool). cond (b && s) (record { word = k; characters = up_to_end (after_start w ws) } ∷ []) [] ++ frames_from (quiet w) (k + 1) ws) e
    ∙ ap (λ (s : Bool). cond s (record { word = k; characters = up_to_end (after_start w ws) } ∷ []) [] ++ frames_from (quiet w) (k + 1) ws) (and-false b)

-- many of them
pub passed_all : (b : Bool) (k : ℕ) (pre ws : List (List ℕ)) → NoStarts pre → frames_from b k (pre ++ ws) ≡ frames_from (quiet_after b pre) (k + length pre) ws
passed_all b k [] ws n = let e : k ≡ k + 0 = omega arith in ap (λ (i : ℕ). frames_from b i ws) e
passed_all b k (w ∷ pre) ws n =
    let e : k + 1 + length pre ≡ k + suc (length pre) = omega arith in
    passed_one b k w (pre ++ ws) n.0 ∙ passed_all (quiet w) (k + 1) pre ws n.1 ∙ ap (λ (i : ℕ). frames_from (quiet_after (quiet w) pre) i ws) e

-- so what stands in front of a word without a Start does not matter
pub passed_both : (pre pre' : List (List ℕ)) (w : List ℕ) (ws : List (List ℕ)) → NoStarts pre → NoStarts pre' → length pre ≡ length pre' → starts w ≡ false
    → frames_from false 0 (pre ++ w ∷ ws) ≡ frames_from false 0 (pre' ++ w ∷ ws)
passed_both pre pre' w ws n n' l e =
    passed_all false 0 pre (w ∷ ws) n ∙ passed_one (quiet_after false pre) (0 + length pre) w ws e
    ∙ ap (λ (i : ℕ). frames_from (quiet w) (0 + i + 1) ws) l
    ∙ sym (passed_all false 0 pre' (w ∷ ws) n' ∙ passed_one (quiet_after false pre') (0 + length pre') w ws e)

-- ---- the words of vectors

pub words_append : (a b : ℕ) (bytes : List ℕ) → words_in (a + b) bytes ≡ words_in a bytes ++ words_in b (drop (5 * a) bytes)
unfolding words_in
words_append zero b bytes = let e : 0 + b ≡ b = omega arith in ap (λ (n : ℕ). words_in n bytes) e
words_append (suc a) b bytes =
    let e : suc a + b ≡ suc (a + b) = omega arith in
    let n : 5 + 5 * a ≡ 5 * suc a = omega arith in
    ap (λ (n : ℕ). words_in n bytes) e
    ∙ ap (λ (ws : List (List ℕ)). take 5 bytes ∷ ws) (words_append a b (drop 5 bytes) ∙ ap (λ (l : List ℕ). words_in a (drop 5 bytes) ++ words_in b l) (drop-drop (5 * a) 5 bytes ∙ ap (λ (n : ℕ). drop n bytes) n))

pub length_words : (k : ℕ) (bytes : List ℕ) → length (words_in k bytes) ≡ k
unfolding words_in
length_words zero bytes = refl
length_words (suc k) bytes = ap suc (length_words k (drop 5 bytes))

-- two to a vector: those of control vectors have no Start
pub control_none : (ed : Edition) (n : ℕ) (bytes : List ℕ) → control_vectors ed (vectors_in n bytes) ≡ true → NoStarts (words_in (2 * n) bytes)
unfolding words_in vectors_in control_vectors
control_none ed zero bytes h = tt
control_none ed (suc n) bytes h =
    let q = and_both (control_vector ed (take 10 bytes)) (control_vectors ed (vectors_in n (drop 10 bytes))) h in
    let e : suc (suc (2 * n)) ≡ 2 * suc n = omega arith in
    rw (← e) (first_none ed bytes q.0, (second_none ed bytes q.0, rw (drop-drop 5 5 bytes) (control_none ed n (drop 10 bytes) q.1)))
