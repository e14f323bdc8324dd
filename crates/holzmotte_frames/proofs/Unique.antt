-- "Any two answers satisfying it coincide": the promise has one result, one content of each lent slice.
use Prim.Native.Nat.{ℕ}
use mathlib.Core.Path.{◌≡◌, sym, ◌∙◌}
use mathlib.Core.List.{List}
use Rattle.holzmotte_frames.specs.Boundary.{ListsThroughC}

pub holzmotte_frames_unique : (bytes list summary : List ℕ) (r r' : ℕ) (l l' s s' : List ℕ)
    → ListsThroughC bytes list summary r l s → ListsThroughC bytes list summary r' l' s' → (r ≡ r') × (l ≡ l') × (s ≡ s')
holzmotte_frames_unique bytes list summary r r' l l' s s' p q = (p.0 ∙ sym q.0, p.1 ∙ sym q.1, p.2 ∙ sym q.2)
