-- The promise of receiving fixes the whole answer and every byte of the room: any two that meet it are equal. Assumes nothing.
use Prim.Native.Nat.{ℕ, ◌+◌}
use mathlib.Core.Path.{◌≡◌, sym, ap, ap₂, ◌∙◌}
use mathlib.Core.Bool.{Bool, true}
use mathlib.Core.List.{List, ◌++◌}
use lib.ListN.{length, take, drop}
use Rattle.std.specs.Prelude.{Result, Ok, Err}
use Rattle.refusals.proofs.Unique.{refused_injective}
use Rattle.refusals.specs.Number.{number_of}
use Rattle.refusals.specs.declared.Refused.{Refused}
use Rattle.receiving.specs.Answer.{received, refused, answer_of, Receives}
use Rattle.receiving.specs.Loop.{held_bytes, held_handed, held_alone}
use Rattle.receiving.specs.declared.Summary.{Summary}
use Rattle.receiving.specs.declared.Handed.{Handed}
use Rattle.receiving.specs.declared.Receiver.{Receiver}
use Rattle.receiving.specs.declared.LastVector.{LastVector}

-- equal refusals have equal numbers
same_number : (a b p q : ℕ) → refused a p ≡ refused b q → a ≡ b
same_number a b p q e = cc

-- and equal places
same_place : (a b p q : ℕ) → refused a p ≡ refused b q → p ≡ q
same_place a b p q e = cc

-- and equal answers equal summaries
same_summary : (a b : Summary) → received a ≡ received b → a ≡ b
same_summary a b e = cc

-- the document's numbers and values tell the answer
pub answer_injective : (a b : Result Summary Refused) → answer_of a ≡ answer_of b → a ≡ b
answer_injective (Ok r) (Ok s) e = ap Ok (same_summary r s e)
answer_injective (Ok r) (Err w) e = cc
answer_injective (Err v) (Ok r) e = cc
answer_injective (Err v) (Err w) e =
    ap Err (refused_injective v w (same_number (number_of v.0) (number_of w.0) v.1 w.1 e) (same_place (number_of v.0) (number_of w.0) v.1 w.1 e))

-- `receive`
pub receive_unique : (edition : ℕ) (line room room₁ room₂ : List ℕ) (a b : Result Summary Refused) → Receives edition line room a room₁ → Receives edition line room b room₂ → (a ≡ b) × (room₁ ≡ room₂)
receive_unique edition line room room₁ room₂ a b (p, q) (r, s) = (answer_injective a b (p ∙ sym r), q ∙ sym s)

-- what `receive_last` leaves of a room, with a held block's bytes from `at` on
abbrev last_room : (at : ℕ) (room bytes : List ℕ) → List ℕ
last_room at room bytes = take at room ++ (bytes ++ drop (at + length bytes) room)

-- `receive_last`
pub receive_last_unique : (at : ℕ) (r : Receiver) (h : Handed) (room room₁ room₂ : List ℕ) (a b : LastVector)
    → (room₁ ≡ last_room at room (held_bytes r.have r.state r.held true)) × (a.handed ≡ held_handed r.have h r.state r.held true) × (a.alone ≡ held_alone r.have r.state r.held)
    → (room₂ ≡ last_room at room (held_bytes r.have r.state r.held true)) × (b.handed ≡ held_handed r.have h r.state r.held true) × (b.alone ≡ held_alone r.have r.state r.held)
    → (room₁ ≡ room₂) × (a ≡ b)
receive_last_unique at r h room room₁ room₂ a b p q =
    (p.0 ∙ sym q.0, ap₂ (λ (n : Handed) (f : Bool). record { handed = n; alone = f }) (p.1 ∙ sym q.1) (p.2 ∙ sym q.2))
