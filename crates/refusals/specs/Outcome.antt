-- Demand 1, the shape that it has for every entry point. For every input the answer is either the success that its definition gives, or exactly
-- the first refusal of its list that applies, with its place; and then every lent byte is as it was. `Demand1OfX` in `specs/Demand1.antt` of the
-- crate that promises X says it of X.
use Rattle.std.specs.Prelude.{ℕ, ◌≡◌, true, false, List, [], ◌∷◌, ◌++◌, ◌⊎◌, length, drop}
use Rattle.refusals.specs.First.{Check}

-- no row of a list of refusals applies
abbrev pub NoneApplies : List Check → Type 0
NoneApplies [] = Unit
NoneApplies (c ∷ cs) = (c.applies ≡ false) × NoneApplies cs

-- the first row that applies has this number and this place
abbrev pub FirstApplies : List Check → (number place : ℕ) → Type 0
FirstApplies [] number place = ⊥
FirstApplies (c ∷ cs) number place =
    ((c.applies ≡ true) × (c.number ≡ number) × (c.place ≡ place)) ⊎ ((c.applies ≡ false) × FirstApplies cs number place)

-- What a call came to, against its list of refusals: no row applies, and it is what success gives; or it is what the first row that
-- applies gives.
pub data Outcome {A : Type 0} (checks : List Check) (came success : A) (refusal : (number place : ℕ) → A) : Type 0 where
  succeeds : NoneApplies checks → came ≡ success → Outcome checks came success refusal
  refuses : (number place : ℕ) → FirstApplies checks number place → came ≡ refusal number place → Outcome checks came success refusal

-- A call that is lent room comes to its answer and the room as it leaves it. Success writes its bytes from the start of the room, and the rest
-- is unchanged; a refusal leaves all of it as it was.
abbrev pub OutcomeInRoom : {A : Type 0} (checks : List Check) (answer : A) (room' : List ℕ) (success : A) (bytes room : List ℕ) (refusal : (number place : ℕ) → A) → Type 0
OutcomeInRoom {A} checks answer room' success bytes room refusal =
    Outcome {A = A × List ℕ} checks (answer, room')
    (success, bytes ++ drop (length bytes) room)
    (λ number place. (refusal number place, room))
