-- A reviewer can skip this file: the words of a list of bytes by their number, as the functions read them.
use Rattle.std.specs.Prelude.{ℕ, zero, suc, ◌*◌, ◌-◌, ◌/◌, List, Bool, false, length, take, drop}
use Rattle.frames.specs.Frames.{Frame, words_in, quiet, frames_from}

abbrev pub nth_word : List ℕ → ℕ → List ℕ
nth_word bytes k = take 5 (drop (5 * k) bytes)

-- the words from word k on
unfoldable pub words_from : List ℕ → ℕ → List (List ℕ)
words_from bytes k = words_in (length bytes / 5 - k) (drop (5 * k) bytes)

-- whether a frame may begin in word k, by the word before it
unfoldable pub quiet_before : List ℕ → ℕ → Bool
quiet_before bytes zero = false
quiet_before bytes (suc k) = quiet (nth_word bytes k)

-- the frames that begin in word k or later
unfoldable pub frames_left : List ℕ → ℕ → List Frame
frames_left bytes k = frames_from (quiet_before bytes k) k (words_from bytes k)
