-- The promise of `judge` fixes its answer: any two that meet it are equal. Assumes nothing.
use Prim.Native.Nat.{ℕ}
use mathlib.Core.Path.{◌≡◌, refl, sym, ap, ◌∙◌}
use Rattle.std.specs.Prelude.{Result, Ok, Err}
use Rattle.refusals.specs.declared.Refusal.{Refusal}
use Rattle.refusals.specs.Number.{number_of}
use Rattle.refusals.proofs.Laws.{number_injective}
use Rattle.kept_state.specs.declared.State.{State}
use Rattle.judging.specs.Judging.{burst_verdict}
use Rattle.judging.specs.Coded.{verdict_said}

-- a verdict tells the answer
said_injective : (a b : Result Unit Refusal) → verdict_said a ≡ verdict_said b → a ≡ b
said_injective (Ok x) (Ok y) e = refl
said_injective (Ok x) (Err m) e = cc
said_injective (Err n) (Ok y) e = cc
said_injective (Err n) (Err m) e = let same : number_of n ≡ number_of m = cc in ap Err (number_injective n m same)

pub judge_unique : (s : State) (line room : ℕ) (a b : Result Unit Refusal) → verdict_said a ≡ burst_verdict s line room → verdict_said b ≡ burst_verdict s line room → a ≡ b
judge_unique s line room a b p q = said_injective a b (p ∙ sym q)
