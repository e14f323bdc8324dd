-- A reviewer can skip this file: what the functions of this crate promise each other.
use Rattle.std.specs.Prelude.{ℕ, ◌+◌, ◌*◌, ◌/◌, ◌≤◌, ◌≡◌, List, ◌++◌, length, take, drop}
use Rattle.frames.specs.Words.{frames_left}
use Rattle.frame_list.specs.Answer.{entries}
use Rattle.frame_list.specs.declared.Reached.{Reached}

-- Listing went from word k, with n entries in the list, on to what r says: what was in the list and what was left to list is what is in the
-- list now and what is left now, and the list is unchanged after its entries.
pub record ListsOn (bytes : List ℕ) (k n : ℕ) (before : List ℕ) (r : Reached) (list : List ℕ) : Type 0 where
  pub later : k ≤ r.word
  pub within : r.word ≤ length bytes / 5
  pub more : n ≤ r.entries
  pub number : n + length (frames_left bytes k) ≡ r.entries + length (frames_left bytes r.word)
  pub same : take (12 * n) before ++ entries (frames_left bytes k) ≡ take (12 * r.entries) list ++ entries (frames_left bytes r.word)
  pub rest : drop (12 * r.entries) before ≡ drop (12 * r.entries) list
