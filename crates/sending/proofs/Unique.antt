-- "Any two answers satisfying it coincide": sending's promise has one answer, and one content of the lent room.
use Prim.Native.Nat.{ℕ}
use mathlib.Core.Path.{◌≡◌, sym, ap, ◌∙◌}
use mathlib.Core.List.{List}
use Rattle.std.specs.Prelude.{Result, Ok, Err}
use Rattle.refusals.specs.Number.{number_of}
use Rattle.refusals.specs.declared.Refused.{Refused}
use Rattle.refusals.proofs.Unique.{refused_injective}
use Rattle.sending.specs.Answer.{answer_of, Sends}
use Rattle.sending.specs.declared.Sending.{Sending}

-- the document's number and values tell the answer
pub answer_injective : (a b : Result Sending Refused) → answer_of a ≡ answer_of b → a ≡ b
answer_injective (Ok a) (Ok b) e =
    let s : a.state ≡ b.state = cc in
    let d : a.diagram ≡ b.diagram = cc in
    let r : a.replaced ≡ b.replaced = cc in
    ap Ok (rw (s, d, r))
answer_injective (Ok a) (Err r) e = cc
answer_injective (Err r) (Ok b) e = cc
answer_injective (Err r) (Err r') e =
    let n : number_of r.0 ≡ number_of r'.0 = cc in
    let p : r.1 ≡ r'.1 = cc in
    ap Err (refused_injective r r' n p)

pub send_unique : (edition : ℕ) (vectors room : List ℕ) (start : ℕ) (a b : Result Sending Refused) (after after' : List ℕ)
    → Sends edition vectors start room a after → Sends edition vectors start room b after' → (a ≡ b) × (after ≡ after')
send_unique edition vectors room start a b after after' p q = (answer_injective a b (p.0 ∙ sym q.0), p.1 ∙ sym q.1)
