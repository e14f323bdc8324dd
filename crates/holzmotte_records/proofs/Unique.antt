-- Any two answers that meet a public function's promise are equal. Assumes nothing.
use Prim.Native.Nat.{ℕ}
use mathlib.Core.Path.{◌≡◌, sym, ◌∙◌}
use mathlib.Core.List.{List}
use Rattle.holzmotte_records.specs.Boundary.{ReadsThroughC, WritesThroughC}

pub holzmotte_read_record_unique : (file : List ℕ) (place : ℕ) (summary : List ℕ) (a b : ℕ) (after after' : List ℕ)
    → ReadsThroughC file place summary a after → ReadsThroughC file place summary b after' → (a ≡ b) × (after ≡ after')
holzmotte_read_record_unique file place summary a b after after' p q = (p.0 ∙ sym q.0, p.1 ∙ sym q.1)

pub holzmotte_write_record_unique : (kind : ℕ) (body : List ℕ) (wide : ℕ) (room : List ℕ) (a b : ℕ) (after after' : List ℕ)
    → WritesThroughC kind body wide room a after → WritesThroughC kind body wide room b after' → (a ≡ b) × (after ≡ after')
holzmotte_write_record_unique kind body wide room a b after after' p q = (p.0 ∙ sym q.0, p.1 ∙ sym q.1)
