-- A list of bytes put over a longer one from a place on; the bytes before and after it stay as they are.
use Rattle.std.specs.Prelude.{ℕ, ◌+◌, ◌≡◌, List, ◌++◌, length, take, drop}

unfoldable pub overlaid : (at : ℕ) (part room : List ℕ) → List ℕ
overlaid at part room = take at room ++ part ++ drop (at + length part) room

-- a function that writes a text from a place on: it answers the place after the text, and this is the room afterwards
pub record PutsText (at : ℕ) (text entry : List ℕ) (r : ℕ) (exit : List ℕ) : Type 0 where
  pub ends : r ≡ at + length text
  pub room : exit ≡ overlaid at text entry
