-- A reviewer can skip this file: a frame while it is read, and what reading one promises to those that list frames.
use Rattle.std.specs.Prelude.{ℕ, ◌+◌, ◌/◌, ◌<◌, ◌≤◌, ◌≡◌, Bool, true, false, cond, ◌&&◌, List, eqb, length}
use Rattle.frames.specs.Frames.{Character, data_octet, control_character, lane_character, up_to_end, data_octets, is_good, after_start}
use Rattle.frames.specs.Words.{nth_word, words_from, frames_left}
use Rattle.frame_reading.specs.declared.Reading.{Reading}
use Rattle.frame_reading.specs.declared.Ended.{Ended}

-- ---- characters inside a frame

-- a frame that is open, after one character more
abbrev pub open_with : Reading → Character → Reading
open_with r (data_octet o) = record { going = true; octets = r.octets + 1; good = r.good }
open_with r (control_character c) =
    cond (eqb c 0xfe)
    (record { going = true; octets = r.octets; good = false })
    (record { going = false; octets = r.octets; good = r.good && eqb c 0xfd })

-- one that has ended stays as it is
unfoldable pub with_character : Reading → Character → Reading
with_character r c = cond r.going (open_with r c) r

abbrev pub with_three : Reading → List ℕ → Reading
with_three r w = with_character (with_character (with_character r (lane_character w 1)) (lane_character w 2)) (lane_character w 3)

unfoldable pub with_word : Reading → List ℕ → Reading
with_word r w = with_three (with_character r (lane_character w 0)) w

-- what it comes to over these characters and the end
unfoldable pub octets_in : Reading → List Character → ℕ
octets_in r cs = cond r.going (r.octets + length (data_octets (up_to_end cs))) r.octets

unfoldable pub good_in : Reading → List Character → Bool
good_in r cs = cond r.going (r.good && is_good (up_to_end cs)) r.good

-- ---- a whole frame

-- the characters after the Start in word k
abbrev pub after_start_at : List ℕ → ℕ → List Character
after_start_at bytes k = after_start (nth_word bytes k) (words_from bytes (k + 1))

-- a frame that began in word k was read: what it holds, and where reading goes on
pub record ReadsFrame (bytes : List ℕ) (k : ℕ) (e : Ended) : Type 0 where
  pub octets : e.octets ≡ length (data_octets (up_to_end (after_start_at bytes k)))
  pub good : e.good ≡ is_good (up_to_end (after_start_at bytes k))
  pub later : k < e.next
  pub within : e.next ≤ length bytes / 5
  pub rest : frames_left bytes (k + 1) ≡ frames_left bytes e.next
