-- Each promise of this crate has one answer, and one content of the room.
use Prim.Native.Nat.{ℕ}
use mathlib.Core.Path.{◌≡◌, sym, ◌∙◌}
use mathlib.Core.List.{List}
use Rattle.putting.specs.Overlaid.{overlaid, PutsText}

pub put_unique : (at : ℕ) (part room a b : List ℕ) → a ≡ overlaid at part room → b ≡ overlaid at part room → a ≡ b
put_unique at part room a b p q = p ∙ sym q

-- A function that writes a text, as those of the crates above do.
pub puts_unique : (at : ℕ) (text entry : List ℕ) (r r' : ℕ) (exit exit' : List ℕ) → PutsText at text entry r exit → PutsText at text entry r' exit' → (r ≡ r') × (exit ≡ exit')
puts_unique at text entry r r' exit exit' p q = (p.ends ∙ sym q.ends, p.room ∙ sym q.room)

pub text_unique : (at : ℕ) (part entry : List ℕ) (r r' : ℕ) (exit exit' : List ℕ) → PutsText at part entry r exit → PutsText at part entry r' exit' → (r ≡ r') × (exit ≡ exit')
text_unique at part entry r r' exit exit' = puts_unique at part entry r r' exit exit'
