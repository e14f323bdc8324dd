-- Any two answers, and any two contents of the room, that meet a public function's promise are equal.
use mathlib.Core.Path.{◌≡◌, sym, ◌∙◌}
use mathlib.Core.Bool.{Bool, cond, false}
use mathlib.Core.List.{List, ◌++◌}
use Prim.Native.Nat.{ℕ, ◌+◌}
use lib.ListN.{length, take, drop}
use Rattle.diagrams.specs.declared.State.{State}
use Rattle.receiving.specs.declared.Handed.{Handed}
use Rattle.receiving.specs.declared.Held.{Held}
use Rattle.receiving.specs.Receive.{lets_end, is_terminate}
use Rattle.receiving.specs.Loop.{tested_in, held_state, held_bytes, held_handed}
use Rattle.answering.specs.declared.Answered.{Answered}

pub lets_end_unique : (next : Held) (r r' : Bool) → r ≡ lets_end (tested_in next) → r' ≡ lets_end (tested_in next) → r ≡ r'
lets_end_unique next r r' p q = p ∙ sym q

pub judged_alone_unique : (have : Bool) (s : State) (r r' : Bool) → r ≡ cond have (is_terminate s) false → r' ≡ cond have (is_terminate s) false → r ≡ r'
judged_alone_unique have s r r' p q = p ∙ sym q

module _ (room : List ℕ) (at : ℕ) (handed : Handed) (have : Bool) (s : State) (h : Held) (ends : Bool) where
  abbrev Settles : Answered → List ℕ → Type 0
  Settles r room' = (r.state ≡ held_state have s h ends) × (r.at ≡ at + length (held_bytes have s h ends)) × (room' ≡ take at room ++ (held_bytes have s h ends ++ drop (at + length (held_bytes have s h ends)) room)) × (r.handed ≡ held_handed have handed s h ends)

  pub settle_held_unique : (r r' : Answered) (out out' : List ℕ) → Settles r out → Settles r' out' → (r ≡ r') × (out ≡ out')
  settle_held_unique r r' out out' p q =
      (λ i. record { state = (p.0 ∙ sym q.0) i; at = (p.1 ∙ sym q.1) i; handed = (p.3 ∙ sym q.3) i }, p.2 ∙ sym q.2)
