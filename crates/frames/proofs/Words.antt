-- The words of a list of bytes, and the frames that begin in them, word by word. Assumes nothing.
use Prim.Native.Nat.{ℕ, zero, suc, ◌+◌, ◌*◌, ◌-◌, ◌/◌, ◌≤◌, ◌<◌}
use mathlib.Core.Path.{◌≡◌, refl, sym, ap, ◌∙◌}
use mathlib.Core.Bool.{Bool, true, false, cond, ◌&&◌}
use mathlib.Core.List.{List, [], ◌∷◌, ◌++◌}
use native.Mathlib.Omega.{arith}
use native.Mathlib.Numerals.{add-one}
use lib.ListN.{length, drop}
use lib.Seq.{drop-drop}
use Rattle.frames.specs.Frames.{words_in, word_list, quiet, starts, up_to_end, after_start, Frame, frames_from, frames_of}
use Rattle.frames.specs.Words.{nth_word, words_from, quiet_before, frames_left}

-- word k, and then the words from the next on
pub words_step : (bytes : List ℕ) (k : ℕ) → k < length bytes / 5 → words_from bytes k ≡ nth_word bytes k ∷ words_from bytes (k + 1)
unfolding words_from words_in
words_step bytes k h =
    let e : length bytes / 5 - k ≡ suc (length bytes / 5 - (k + 1)) = omega arith in
    let n : 5 * k + 5 ≡ 5 * (k + 1) = omega arith in
    let d : drop 5 (drop (5 * k) bytes) ≡ drop (5 * (k + 1)) bytes = drop-drop 5 (5 * k) bytes ∙ ap (λ (n : ℕ). drop n bytes) n in
    ap (λ (n : ℕ). words_in n (drop (5 * k) bytes)) e ∙ ap (λ (l : List ℕ). nth_word bytes k ∷ words_in (length bytes / 5 - (k + 1)) l) d

pub words_end : (bytes : List ℕ) (k : ℕ) → length bytes / 5 ≤ k → words_from bytes k ≡ []
unfolding words_from words_in
words_end bytes k h =
    let e : length bytes / 5 - k ≡ 0 = omega arith in
    ap (λ (n : ℕ). words_in n (drop (5 * k) bytes)) e

-- the word before the next is this one
pub quiet_next : (bytes : List ℕ) (k : ℕ) → quiet_before bytes (k + 1) ≡ quiet (nth_word bytes k)
unfolding quiet_before
quiet_next bytes k = ap (λ (n : ℕ). quiet_before bytes n) (add-one k)

pub quiet_last : (bytes : List ℕ) (k : ℕ) → (k ≡ 0 → ⊥) → quiet_before bytes k ≡ quiet (nth_word bytes (k - 1))
quiet_last bytes k h =
    let e : k ≡ k - 1 + 1 = nonzero k h in
    ap (λ (n : ℕ). quiet_before bytes n) e ∙ quiet_next bytes (k - 1)
  where
    nonzero : (k : ℕ) → (k ≡ 0 → ⊥) → k ≡ k - 1 + 1
    nonzero zero h = absurd (h refl)
    nonzero (suc n) h = omega arith

pub quiet_first : (bytes : List ℕ) (k : ℕ) → k ≡ 0 → quiet_before bytes k ≡ false
unfolding quiet_before
quiet_first bytes k e = ap (λ (n : ℕ). quiet_before bytes n) e

-- the frame that begins in word k
abbrev pub frame_at : List ℕ → ℕ → Frame
frame_at bytes k = record { word = k; characters = up_to_end (after_start (nth_word bytes k) (words_from bytes (k + 1))) }

-- the frames from word k on, by whether one begins there
left_step : (bytes : List ℕ) (k : ℕ) → k < length bytes / 5
    → frames_left bytes k ≡ cond (quiet_before bytes k && starts (nth_word bytes k)) (frame_at bytes k ∷ []) [] ++ frames_left bytes (k + 1)
unfolding frames_left frames_from
left_step bytes k h =
    ap (λ (ws : List (List ℕ)). frames_from (quiet_before bytes k) k ws) (words_step bytes k h)
    ∙ ap (λ (b : Bool). cond (quiet_before bytes k && starts (nth_word bytes k)) (frame_at bytes k ∷ []) [] ++ frames_from b (k + 1) (words_from bytes (k + 1))) (sym (quiet_next bytes k))

pub left_none : (bytes : List ℕ) (k : ℕ) → k < length bytes / 5 → (quiet_before bytes k && starts (nth_word bytes k)) ≡ false → frames_left bytes k ≡ frames_left bytes (k + 1)
left_none bytes k h e = left_step bytes k h ∙ ap (λ (b : Bool). cond b (frame_at bytes k ∷ []) [] ++ frames_left bytes (k + 1)) e

pub left_some : (bytes : List ℕ) (k : ℕ) → k < length bytes / 5 → (quiet_before bytes k && starts (nth_word bytes k)) ≡ true
    → frames_left bytes k ≡ frame_at bytes k ∷ frames_left bytes (k + 1)
left_some bytes k h e = left_step bytes k h ∙ ap (λ (b : Bool). cond b (frame_at bytes k ∷ []) [] ++ frames_left bytes (k + 1)) e

pub left_end : (bytes : List ℕ) (k : ℕ) → length bytes / 5 ≤ k → frames_left bytes k ≡ []
unfolding frames_left frames_from
left_end bytes k h = ap (λ (ws : List (List ℕ)). frames_from (quiet_before bytes k) k ws) (words_end bytes k h)

-- all frames are those from word 0 on
pub left_all : (bytes : List ℕ) → frames_left bytes 0 ≡ frames_of (word_list bytes)
unfolding frames_left quiet_before words_from
left_all bytes =
    let e : length bytes / 5 - 0 ≡ length bytes / 5 = omega arith in
    ap (λ (n : ℕ). frames_from false 0 (words_in n bytes)) e
