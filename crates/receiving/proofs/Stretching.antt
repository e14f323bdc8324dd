-- Turns one after the other, a whole block where nothing is carried, and stretches. Assumes nothing.
use Prim.Native.Nat.{ℕ, ◌+◌, ◌-◌, ◌*◌, ◌^◌, ◌≤◌, ◌<◌}
use mathlib.Core.Path.{◌≡◌, refl, sym, ap, ◌∙◌, subst}
use mathlib.Core.Bool.{Bool, true, false, false≢true}
use mathlib.Core.List.{List}
use native.Mathlib.Omega.{arith}
use lib.ListN.{length, drop}
use lib.Seq.{drop-drop}
use Rattle.bits.specs.Bits.{line_bits}
use Rattle.blocks.specs.Blocks.{header_at, payload_at}
use Rattle.std.specs.Prelude.{Some}
use Rattle.line.specs.declared.Block.{Block}
use Rattle.carrying.specs.Carrying.{Sound, Takes}
use Rattle.carrying.specs.declared.Carried.{Carried}
use Rattle.carrying.specs.declared.Taken.{Taken}
use Rattle.carrying.proofs.Laws.{takes_whole}
use Rattle.receiving.specs.Loop.{Under, Turns, Stretches}
use Rattle.receiving.specs.declared.Progress.{Progress}

-- what follows from false being true
pub never {ℓ} : {P : Type ℓ} → ◌≡◌ {A = Bool} false true → P
never e = absurd (false≢true e)

-- ---- a whole block, where nothing is carried

-- the block
abbrev pub block_with : (header payload : ℕ) → Block
block_with header payload = record { header = header; payload = payload }

-- what is taken from the line
abbrev pub whole_block : Progress → (header payload : ℕ) → Taken
whole_block p header payload = record { block = Some (block_with header payload); carried = p.receiver.carried; next = p.pos + 66 }

-- nothing is carried: no bit is set
pub carried_none : (c : Carried) → Sound c → c.count ≡ 0 → (c.count ≡ 0) × (c.header ≡ 0) × (c.payload ≡ 0)
carried_none c s none =
    let small : c.header + 4 * c.payload < 1 = subst (λ (n : ℕ). c.header + 4 * c.payload < 2 ^ n) none s.fits in
    (none, omega arith, omega arith)

pub whole_taken : (line : List ℕ) (p : Progress) (header payload : ℕ) → Sound p.receiver.carried → p.receiver.skip ≡ false → p.receiver.carried.count ≡ 0
    → p.pos + 66 ≤ 8 * length line → header ≡ header_at line p.pos → payload ≡ payload_at line p.pos
    → Takes (line_bits line) p.pos p.receiver.skip p.receiver.carried (whole_block p header payload)
whole_taken line p header payload s skip none here eh ep =
    let c = p.receiver.carried in
    subst (λ (b : Bool). Takes (line_bits line) p.pos b c (whole_block p header payload)) (sym skip)
    (takes_whole line p.pos c (omega (arith, here)) (whole_block p header payload) none here (block_with header payload) refl (carried_none c s none) refl eh ep)

-- ---- stretches

-- turns after turns
pub turns_more : (line r₀ r₁ r₂ : List ℕ) (p q t : Progress) → Turns line r₀ r₁ p q → Turns line r₁ r₂ q t → Turns line r₀ r₂ p t
turns_more line r₀ r₁ r₂ p q t a b =
    let n : t.at ≡ q.at + (t.at - q.at) = omega (arith, b.grows) in
    record {
      under = b.under;
      same = b.same ∙ a.same;
      past = omega (arith, a.past, b.past);
      grows = omega (arith, a.grows, b.grows);
      rest =
          b.rest ∙ ap (λ (j : ℕ). drop j r₁) n ∙ sym (drop-drop (t.at - q.at) q.at r₁)
          ∙ ap (drop (t.at - q.at)) a.rest ∙ drop-drop (t.at - q.at) q.at r₀ ∙ sym (ap (λ (j : ℕ). drop j r₀) n);
      len = b.len ∙ a.len;
    }

-- none yet
pub stretch_first : (line room : List ℕ) (p : Progress) → Under line room p → p.pos < 8 * length line → Stretches line room room p p
stretch_first line room p u e =
    record { under = u; same = refl; past = omega arith; ends = e; grows = omega arith; rest = refl; len = refl }

-- stretches after stretches
pub stretch_more : (line r₀ r₁ r₂ : List ℕ) (p q t : Progress) → Stretches line r₀ r₁ p q → Stretches line r₁ r₂ q t → Stretches line r₀ r₂ p t
stretch_more line r₀ r₁ r₂ p q t a b =
    let n : t.at ≡ q.at + (t.at - q.at) = omega (arith, b.grows) in
    record {
      under = b.under;
      same = b.same ∙ a.same;
      past = omega (arith, a.past, b.past);
      ends = b.ends;
      grows = omega (arith, a.grows, b.grows);
      rest =
          b.rest ∙ ap (λ (j : ℕ). drop j r₁) n ∙ sym (drop-drop (t.at - q.at) q.at r₁)
          ∙ ap (drop (t.at - q.at)) a.rest ∙ drop-drop (t.at - q.at) q.at r₀ ∙ sym (ap (λ (j : ℕ). drop j r₀) n);
      len = b.len ∙ a.len;
    }

-- a turn is a stretch, where the line does not end
pub stretch_turn : (line room room' : List ℕ) (p p' : Progress) → Turns line room room' p p' → p'.pos < 8 * length line → Stretches line room room' p p'
stretch_turn line room room' p p' t e =
    record { under = t.under; same = t.same; past = omega (arith, t.past); ends = e; grows = t.grows; rest = t.rest; len = t.len }
