-- A reviewer can skip this file: what the functions of this crate promise to those that list frames.
use Rattle.std.specs.Prelude.{ℕ, ◌/◌, ◌<◌, ◌≤◌, ◌≡◌, true, ◌&&◌, List, [], length, Option, None, Some}
use Rattle.frames.specs.Frames.{starts}
use Rattle.frames.specs.Words.{nth_word, quiet_before, frames_left}

-- the next word from k on where a frame begins
pub record NextStart (bytes : List ℕ) (k r : ℕ) : Type 0 where
  pub later : k ≤ r
  pub within : r < length bytes / 5
  pub rest : frames_left bytes k ≡ frames_left bytes r
  pub begins : (quiet_before bytes r && starts (nth_word bytes r)) ≡ true

-- that word; none if no frame is left
abbrev pub FindsStart : (bytes : List ℕ) (k : ℕ) → Option ℕ → Type 0
FindsStart bytes k None = frames_left bytes k ≡ []
FindsStart bytes k (Some r) = NextStart bytes k r
