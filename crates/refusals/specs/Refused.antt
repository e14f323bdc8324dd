-- An answer as the document gives it: what success answers, or the refusal's number and its place.
use Rattle.std.specs.Prelude.{ℕ, Result, Ok, Err}
use Rattle.refusals.specs.Number.{number_of}
use Rattle.refusals.specs.First.{Verdict, accepted, refused}
use Rattle.refusals.specs.declared.Refused.{Refused}

abbrev pub by_result : {T A : Type 0} → (T → A) → (ℕ → ℕ → A) → Result T Refused → A
by_result success refusal (Ok x) = success x
by_result success refusal (Err r) = refusal (number_of r.0) r.1

-- of checks that answer nothing else
abbrev pub verdict_of : Result Unit Refused → Verdict
verdict_of = by_result (λ x. accepted) refused
