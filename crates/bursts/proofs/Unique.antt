-- The promises fix the whole answer, the state after, what was added and every byte of the room: any two that meet one are equal. Assumes
-- nothing.
use Prim.Native.Nat.{ℕ}
use mathlib.Core.Path.{◌≡◌, sym, ap, ◌∙◌}
use mathlib.Core.List.{List}
use Rattle.std.specs.Prelude.{Result, Ok, Err}
use Rattle.refusals.proofs.Unique.{refused_injective}
use Rattle.refusals.specs.Number.{number_of}
use Rattle.refusals.specs.declared.Refused.{Refused}
use Rattle.reception.proofs.Unique.{answer_injective}
use Rattle.kept_state.specs.declared.State.{State}
use Rattle.bursts.specs.declared.Reply.{Reply}
use Rattle.bursts.specs.Burst.{begun, refused, begun_of, Begins, Called, burst_call, close_call, Replies}

same_state : (a b : State) → begun a ≡ begun b → a ≡ b
same_state a b e = cc

same_number : (a b p q : ℕ) → refused a p ≡ refused b q → a ≡ b
same_number a b p q e = cc

same_place : (a b p q : ℕ) → refused a p ≡ refused b q → p ≡ q
same_place a b p q e = cc

begun_injective : (a b : Result State Refused) → begun_of a ≡ begun_of b → a ≡ b
begun_injective (Ok s) (Ok t) e = ap Ok (same_state s t e)
begun_injective (Ok s) (Err w) e = cc
begun_injective (Err v) (Ok s) e = cc
begun_injective (Err v) (Err w) e =
    ap Err (refused_injective v w (same_number (number_of v.0) (number_of w.0) v.1 w.1 e) (same_place (number_of v.0) (number_of w.0) v.1 w.1 e))

-- `begin`
pub begin_unique : (edition : ℕ) (a b : Result State Refused) → Begins edition a → Begins edition b → a ≡ b
begin_unique edition a b p q = begun_injective a b (p ∙ sym q)

same : (c : Called) (a b : Reply) (room₁ room₂ : List ℕ) → Replies c a room₁ → Replies c b room₂ → (a ≡ b) × (room₁ ≡ room₂)
same c a b room₁ room₂ p q =
    let s = p.0 ∙ sym q.0 in
    let n = answer_injective a.answer b.answer (p.1 ∙ sym q.1) in
    let d = p.2 ∙ sym q.2 in
    ((λ i. record { state = s i; answer = n i; added = d i }), p.3 ∙ sym q.3)

-- `burst`
pub burst_unique : (s : State) (line room room₁ room₂ : List ℕ) (a b : Reply) → Replies (burst_call s line room) a room₁ → Replies (burst_call s line room) b room₂ → (a ≡ b) × (room₁ ≡ room₂)
burst_unique s line room room₁ room₂ a b p q = same (burst_call s line room) a b room₁ room₂ p q

-- `close`
pub close_unique : (s : State) (room room₁ room₂ : List ℕ) (a b : Reply) → Replies (close_call s room) a room₁ → Replies (close_call s room) b room₂ → (a ≡ b) × (room₁ ≡ room₂)
close_unique s room room₁ room₂ a b p q = same (close_call s room) a b room₁ room₂ p q
