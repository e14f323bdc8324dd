-- The number of frames, word by word. Assumes nothing.
use Rattle.std.proofs.Common.{ℕ, ◌+◌, ◌/◌, ◌<◌, ◌≤◌, ◌≡◌, refl, ap, Bool, true, false, ◌&&◌, List, length, arith}
use Rattle.frames.specs.Frames.{Frame, starts}
use Rattle.frames.specs.Words.{nth_word, quiet_before, frames_left}
use Rattle.frames.proofs.Words.{left_some, left_none}

-- a word more, in which r frames begin
pub count_step : (bytes : List ℕ) (k r : ℕ) → k < length bytes / 5 → ((quiet_before bytes k && starts (nth_word bytes k)) ≡ true → r ≡ 1)
    → ((quiet_before bytes k && starts (nth_word bytes k)) ≡ false → r ≡ 0) → (length (frames_left bytes k) ≡ r + length (frames_left bytes (k + 1))) × (r ≤ 1)
count_step bytes k r h one none = go (quiet_before bytes k && starts (nth_word bytes k)) refl
  where
    go : (t : Bool) → (quiet_before bytes k && starts (nth_word bytes k)) ≡ t → (length (frames_left bytes k) ≡ r + length (frames_left bytes (k + 1))) × (r ≤ 1)
    go true t = let n = one t in let l = ap (λ (fs : List Frame). length fs) (left_some bytes k h t) in (omega arith, omega arith)
    go false t = let n = none t in let l = ap (λ (fs : List Frame). length fs) (left_none bytes k h t) in (omega arith, omega arith)
