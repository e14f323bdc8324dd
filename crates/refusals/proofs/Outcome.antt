-- A call that goes by the verdict on its list of refusals comes to what demand 1 says. Assumes nothing.
use mathlib.Core.Path.{◌≡◌, refl, ap₂, ◌∙◌}
use mathlib.Core.Bool.{Bool, true, false, cond}
use mathlib.Core.List.{List, [], ◌∷◌, ◌++◌}
use mathlib.Core.Logic.{inl, inr}
use Prim.Native.Nat.{ℕ}
use native.Mathlib.Omega.{arith}
use lib.ListN.{length, drop}
use Rattle.refusals.specs.First.{Check, Verdict, accepted, refused, first, by_verdict}
use Rattle.refusals.specs.Outcome.{NoneApplies, FirstApplies, Outcome, succeeds, refuses, OutcomeInRoom}
use Rattle.refusals.proofs.Laws.{passed}

-- ---- the verdict on a list of refusals, and the row that it comes from

-- to accept is not to refuse
not_both : (number place : ℕ) → accepted ≡ refused number place → ⊥
not_both number place q = let z : ◌≡◌ {A = ℕ} 0 1 = cc in omega arith

-- where a list accepts, no row applies
none_applies : (cs : List Check) → first cs ≡ accepted → NoneApplies cs
none_applies [] e = tt
none_applies (c ∷ cs) e = let p = passed c cs e in (p.0, none_applies cs p.1)

-- where it refuses, that row is the first that applies
first_applies : (cs : List Check) (n p : ℕ) → first cs ≡ refused n p → FirstApplies cs n p
unfolding first
first_applies [] n p e = absurd (not_both n p e)
first_applies (c ∷ cs) n p e = go c.applies refl e (first_applies cs n p)
  where
    go : (b : Bool) → c.applies ≡ b → cond b (refused c.number c.place) (first cs) ≡ refused n p
        → (first cs ≡ refused n p → FirstApplies cs n p) → FirstApplies (c ∷ cs) n p
    go true a e rest = inl (a, cc, cc)
    go false a e rest = inr (a, rest e)

-- ---- by the verdict

-- a call that goes by the verdict comes to what the demand says
pub outcome : {A : Type 0} (cs : List Check) (came success : A) (refusal : ℕ → ℕ → A) → came ≡ by_verdict (first cs) success refusal
    → Outcome cs came success refusal
outcome cs came success refusal e = go (first cs) refl e
  where
    go : (v : Verdict) → first cs ≡ v → came ≡ by_verdict v success refusal → Outcome cs came success refusal
    go accepted q e = succeeds (none_applies cs q) e
    go (refused n p) q e = refuses n p (first_applies cs n p q) e

-- the answer and the room, each by the same verdict
pub both : {A B : Type 0} (v : Verdict) (a : A) (b : B) (f : ℕ → ℕ → A) (g : ℕ → ℕ → B)
    → ◌≡◌ {A = A × B} (by_verdict v a f, by_verdict v b g) (by_verdict v (a, b) (λ n p. (f n p, g n p)))
both accepted a b f g = refl
both (refused n p) a b f g = refl

-- the same of a call that is lent room
pub outcome_in_room : {A : Type 0} (cs : List Check) (answer success : A) (refusal : ℕ → ℕ → A) (room' bytes room : List ℕ)
    → answer ≡ by_verdict (first cs) success refusal → room' ≡ by_verdict (first cs) (bytes ++ drop (length bytes) room) (λ n p. room)
    → OutcomeInRoom cs answer room' success bytes room refusal
outcome_in_room {A} cs answer success refusal room' bytes room e f =
    outcome cs _ _ _ (ap₂ (λ (a : A) (b : List ℕ). (a, b)) e f ∙ both (first cs) success (bytes ++ drop (length bytes) room) refusal (λ n p. room))
