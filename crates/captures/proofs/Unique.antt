-- "Any two answers satisfying it coincide": each promise has one answer, and one content of the lent room.
use Prim.Native.Nat.{ℕ}
use mathlib.Core.Path.{◌≡◌, refl, sym, ap, ◌∙◌}
use mathlib.Core.List.{List}
use Rattle.refusals.specs.Number.{number_of}
use Rattle.refusals.specs.Refused.{by_result}
use Rattle.sending.specs.Answer as Sending
use Rattle.sending.proofs.Unique as Sending'
use Rattle.receiving.specs.Answer as Receiving
use Rattle.reception.proofs.Unique as Receiving'
use Rattle.captures.specs.Captures.{body, refused, recorded, SendsRecord, ReceivesRecord}
use Rattle.refusals.specs.declared.Refused.{Refused}
use Rattle.refusals.proofs.Unique.{refused_injective}
use Rattle.sending.specs.declared.Sending as Sends
use Rattle.receiving.specs.declared.Summary.{Summary}
use Rattle.std.specs.Prelude.{Option, Some, None, Result, Ok, Err}

-- equal bodies have equal answers
same_body : {A : Type 0} (x y : A) → body x ≡ body y → x ≡ y
same_body x y e = cc

-- The document's number and values tell the answer, where they tell what is answered to a body.
module _ {T A : Type 0} (f : T → A) (told : (x y : T) → f x ≡ f y → x ≡ y) where
  recorded_injective : (a b : Result (Option T) Refused) → by_result (recorded f) refused a ≡ by_result (recorded f) refused b → a ≡ b
  recorded_injective (Ok (Some x)) (Ok (Some y)) e = ap (λ (z : T). Ok (Some z)) (told x y (same_body (f x) (f y) e))
  recorded_injective (Ok (Some x)) (Ok None) e = cc
  recorded_injective (Ok (Some x)) (Err r) e = cc
  recorded_injective (Ok None) (Ok (Some y)) e = cc
  recorded_injective (Ok None) (Ok None) e = refl
  recorded_injective (Ok None) (Err r) e = cc
  recorded_injective (Err r) (Ok (Some y)) e = cc
  recorded_injective (Err r) (Ok None) e = cc
  recorded_injective (Err r) (Err r') e =
      let n : number_of r.0 ≡ number_of r'.0 = cc in
      let p : r.1 ≡ r'.1 = cc in
      ap Err (refused_injective r r' n p)

pub send_record_unique : (file : List ℕ) (at start : ℕ) (room : List ℕ) (a b : Result (Option (Result Sends.Sending Refused)) Refused) (after after' : List ℕ)
    → SendsRecord file at start room a after → SendsRecord file at start room b after' → (a ≡ b) × (after ≡ after')
send_record_unique file at start room a b after after' p q = (recorded_injective Sending.answer_of Sending'.answer_injective a b (p.0 ∙ sym q.0), p.1 ∙ sym q.1)

pub receive_record_unique : (file : List ℕ) (at : ℕ) (room : List ℕ) (a b : Result (Option (Result Summary Refused)) Refused) (after after' : List ℕ)
    → ReceivesRecord file at room a after → ReceivesRecord file at room b after' → (a ≡ b) × (after ≡ after')
receive_record_unique file at room a b after after' p q = (recorded_injective Receiving.answer_of Receiving'.answer_injective a b (p.0 ∙ sym q.0), p.1 ∙ sym q.1)
