-- "Any two answers satisfying it coincide": each promise has one result, one content of each lent slice. Assumes nothing.
use Prim.Native.Nat.{ℕ}
use mathlib.Core.Path.{◌≡◌, sym, ◌∙◌}
use mathlib.Core.List.{List}
use Rattle.holzmotte_bursts.specs.Boundary.{BeginsThroughC, Left, burst_left, close_left, Leaves}

pub holzmotte_begin_unique : (edition : ℕ) (state : List ℕ) (r r' : ℕ) (s s' : List ℕ) → BeginsThroughC edition state r s → BeginsThroughC edition state r' s' → (r ≡ r') × (s ≡ s')
holzmotte_begin_unique edition state r r' s s' p q = (p.0 ∙ sym q.0, p.1 ∙ sym q.1)

same : (l : Left) (r r' : ℕ) (s s' v v' m m' c c' : List ℕ) → Leaves l r s v m c → Leaves l r' s' v' m' c' → (r ≡ r') × (s ≡ s') × (v ≡ v') × (m ≡ m') × (c ≡ c')
same l r r' s s' v v' m m' c c' p q = (p.0 ∙ sym q.0, p.1 ∙ sym q.1, p.2 ∙ sym q.2, p.3 ∙ sym q.3, p.4 ∙ sym q.4)

pub holzmotte_burst_unique : (state line vectors summary counters : List ℕ) (r r' : ℕ) (s s' v v' m m' c c' : List ℕ)
    → Leaves (burst_left state line vectors summary counters) r s v m c → Leaves (burst_left state line vectors summary counters) r' s' v' m' c'
    → (r ≡ r') × (s ≡ s') × (v ≡ v') × (m ≡ m') × (c ≡ c')
holzmotte_burst_unique state line vectors summary counters r r' s s' v v' m m' c c' p q = same (burst_left state line vectors summary counters) r r' s s' v v' m m' c c' p q

pub holzmotte_close_unique : (state vectors summary counters : List ℕ) (r r' : ℕ) (s s' v v' m m' c c' : List ℕ)
    → Leaves (close_left state vectors summary counters) r s v m c → Leaves (close_left state vectors summary counters) r' s' v' m' c'
    → (r ≡ r') × (s ≡ s') × (v ≡ v') × (m ≡ m') × (c ≡ c')
holzmotte_close_unique state vectors summary counters r r' s s' v v' m m' c c' p q = same (close_left state vectors summary counters) r r' s s' v v' m m' c c' p q
