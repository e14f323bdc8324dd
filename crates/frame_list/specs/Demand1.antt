-- Demand 1 of listing frames.
use Rattle.std.specs.Prelude.{ℕ, ◌*◌, ◌/◌, ◌≤◌, ◌≡◌, false, List, ltb, length, Result}
use Rattle.refusals.specs.Outcome.{OutcomeInRoom}
use Rattle.refusals.specs.declared.Refused.{Refused}
use Rattle.frame_list.specs.Answer.{entries, frames_in, frames_number, frames_listed, refused, list_checks, answer_of, Lists}

abbrev pub Demand1OfList : Type 0
Demand1OfList =
    (bytes list : List ℕ) (r : Result ℕ Refused) (list' : List ℕ) → Lists bytes list r list'
    → OutcomeInRoom (list_checks bytes (length list)) (answer_of r) list' (frames_listed (frames_number bytes)) (entries (frames_in bytes)) list refused

-- 12 bytes for each vector are room enough: the last refusal of the list does not apply
abbrev pub RoomEnough : Type 0
RoomEnough = (bytes : List ℕ) (list : ℕ) → 12 * (length bytes / 10) ≤ list → ltb list (12 * frames_number bytes) ≡ false
