-- "Any two answers satisfying it coincide": each promise of this crate has one answer, and one content of the lent room.
use Prim.Native.Nat.{ℕ, ◌+◌}
use mathlib.Core.Path.{◌≡◌, sym, ◌∙◌}
use mathlib.Core.Bool.{Bool}
use mathlib.Core.List.{List, ◌++◌}
use lib.ListN.{length, drop}
use Rattle.refusals.specs.Number.{number_of}
use Rattle.refusals.proofs.Laws.{number_injective}
use Rattle.record_writing.specs.Writing.{record_of, write_answer_of, Writes}
use Rattle.std.specs.Prelude.{Result, Ok, Err}
use Rattle.refusals.specs.declared.Refusal.{Refusal}

-- The document's number and values tell the answer.
pub write_answer_injective : (a b : Result ℕ Refusal) → write_answer_of a ≡ write_answer_of b → a ≡ b
write_answer_injective (Ok n) (Ok n') e = cc
write_answer_injective (Ok n) (Err w) e = cc
write_answer_injective (Err w) (Ok n) e = cc
write_answer_injective (Err w) (Err w') e =
    let n : number_of w ≡ number_of w' = cc in
    let u = number_injective w w' n in
    cc

pub put_unique : (kind : ℕ) (body room a b : List ℕ) → a ≡ record_of kind body ++ drop (length body + 4) room → b ≡ record_of kind body ++ drop (length body + 4) room → a ≡ b
put_unique kind body room a b p q = p ∙ sym q

pub write_unique : (kind : ℕ) (body : List ℕ) (wide : Bool) (room : List ℕ) (a b : Result ℕ Refusal) (after after' : List ℕ)
    → Writes kind body wide room a after → Writes kind body wide room b after' → (a ≡ b) × (after ≡ after')
write_unique kind body wide room a b after after' p q = (write_answer_injective a b (p.0 ∙ sym q.0), p.1 ∙ sym q.1)
