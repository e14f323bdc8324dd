-- Document 01, 'Refusal numbers': "The first that applies in these orders is given, and no later one."
use Rattle.std.specs.Prelude.{ℕ, List, [], ◌∷◌, Bool, cond}

-- a row of the table: the refusal's number, its place, and whether it applies
pub record Check : Type 0 where
  pub number : ℕ
  pub place : ℕ
  pub applies : Bool

-- a row whose place is 0
abbrev pub check : ℕ → Bool → Check
check n b = record { number = n; place = 0; applies = b }

abbrev pub check_at : ℕ → ℕ → Bool → Check
check_at n p b = record { number = n; place = p; applies = b }

-- what a list of rows comes to: accepted, or refused with a number and a place
pub data Verdict : Type 0 where
  accepted : Verdict
  refused : ℕ → ℕ → Verdict

unfoldable pub first : List Check → Verdict
first [] = accepted
first (c ∷ cs) = cond c.applies (refused c.number c.place) (first cs)

-- an answer by the verdict: what success answers, or what the refusal does
abbrev pub by_verdict {ℓ} : {A : Type ℓ} → Verdict → A → (ℕ → ℕ → A) → A
by_verdict accepted success refusal = success
by_verdict (refused n p) success refusal = refusal n p
