-- "Any two answers satisfying it coincide": each promise has one result, one content of each lent slice.
use Prim.Native.Nat.{ℕ}
use mathlib.Core.Path.{◌≡◌, sym, ◌∙◌}
use mathlib.Core.List.{List}
use Rattle.holzmotte.specs.Boundary.{SendsThroughC, ReceivesThroughC}

pub holzmotte_send_unique : (edition : ℕ) (vectors room summary : List ℕ) (start r r' : ℕ) (l l' s s' : List ℕ)
    → SendsThroughC edition vectors start room summary r l s → SendsThroughC edition vectors start room summary r' l' s' → (r ≡ r') × (l ≡ l') × (s ≡ s')
holzmotte_send_unique edition vectors room summary start r r' l l' s s' p q = (p.0 ∙ sym q.0, p.1 ∙ sym q.1, p.2 ∙ sym q.2)

pub holzmotte_receive_unique : (edition : ℕ) (line room summary counters : List ℕ) (r r' : ℕ) (v v' s s' c c' : List ℕ)
    → ReceivesThroughC edition line room summary counters r v s c → ReceivesThroughC edition line room summary counters r' v' s' c' → (r ≡ r') × (v ≡ v') × (s ≡ s') × (c ≡ c')
holzmotte_receive_unique edition line room summary counters r r' v v' s s' c c' p q = (p.0 ∙ sym q.0, p.1 ∙ sym q.1, p.2 ∙ sym q.2, p.3 ∙ sym q.3)
