-- Demand 1 of reading a record, proved over the definitions. Assumes nothing.
use Prim.Native.Nat.{ℕ}
use mathlib.Core.Path.{◌≡◌, refl}
use mathlib.Core.Bool.{Bool, true, false, cond}
use mathlib.Core.List.{List}
use mathlib.Core.Logic.{inl, inr}
use lib.Dec.{leb}
use lib.ListN.{length}
use borrow.Author.Tests.{leb-true, leb-false}
use Rattle.refusals.specs.First.{Check, first, by_verdict}
use Rattle.refusals.proofs.Outcome.{outcome}
use Rattle.records.specs.Record.{body_limit, read_checks, read_at}
use Rattle.records.specs.Demand1.{OutcomeAt, Demand1OfRead}

-- a call that looks at a place of a file
pub outcome_at : {A : Type 0} (file : List ℕ) (place : ℕ) (ending : A) (cs : List Check) (came success : A) (refusal : ℕ → ℕ → A)
    → came ≡ cond (leb (length file) place) ending (by_verdict (first cs) success refusal) → OutcomeAt file place ending cs came success refusal
outcome_at {A} file place ending cs came success refusal e = go (leb (length file) place) refl e
  where
    go : (b : Bool) → leb (length file) place ≡ b → came ≡ cond b ending (by_verdict (first cs) success refusal)
        → OutcomeAt file place ending cs came success refusal
    go true b e = inl (leb-true (length file) place b, e)
    go false b e = inr (leb-false (length file) place b, outcome cs _ _ _ e)

-- reading
pub demand_1_of_read : Demand1OfRead
unfolding read_at
demand_1_of_read file place r e = outcome_at file place _ (read_checks body_limit file place) _ _ _ e
