-- Any two answers that meet a public function's promise are equal, and what they leave. Assumes nothing.
use Prim.Native.Nat.{ℕ}
use mathlib.Core.Path.{◌≡◌, sym, ◌∙◌}
use mathlib.Core.List.{List}
use Rattle.holzmotte_index.specs.Boundary.{IndexesThroughC, CountsThroughC, FindsThroughC}

pub holzmotte_index_unique : (bytes index : List ℕ) (a b : ℕ) (after after' : List ℕ) → IndexesThroughC bytes index a after → IndexesThroughC bytes index b after' → (a ≡ b) × (after ≡ after')
holzmotte_index_unique bytes index a b after after' p q = (p.0 ∙ sym q.0, p.1 ∙ sym q.1)

pub holzmotte_count_unique : (bytes index : List ℕ) (a b : ℕ) (summary : List ℕ) (r r' : ℕ) (after after' : List ℕ)
    → CountsThroughC bytes index a b summary r after → CountsThroughC bytes index a b summary r' after' → (r ≡ r') × (after ≡ after')
holzmotte_count_unique bytes index a b summary r r' after after' p q = (p.0 ∙ sym q.0, p.1 ∙ sym q.1)

pub holzmotte_find_error_unique : (bytes index : List ℕ) (n : ℕ) (summary : List ℕ) (r r' : ℕ) (after after' : List ℕ)
    → FindsThroughC bytes index n summary r after → FindsThroughC bytes index n summary r' after' → (r ≡ r') × (after ≡ after')
holzmotte_find_error_unique bytes index n summary r r' after after' p q = (p.0 ∙ sym q.0, p.1 ∙ sym q.1)
