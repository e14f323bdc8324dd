-- The kinds of the old edition are those of the formats, and LI is none of them. Assumes nothing.
use mathlib.Core.Path.{◌≡◌, refl, ◌∙◌, ap, subst}
use mathlib.Core.Bool.{Bool, true, false, cond, not, ◌&&◌, ◌||◌}
use mathlib.Core.List.{List, [], ◌∷◌}
use Prim.Native.Nat.{ℕ, ◌%◌, ◌^◌}
use lib.Dec.{T, T_not, eqb}
use Rattle.block.specs.declared.Edition.TheVariants.{Old}
use Rattle.block.specs.declared.Kind.{Kind}
use Rattle.block.specs.declared.Kind.TheVariants.{LI}
use Rattle.block.specs.declared.Reason.TheVariants.{Header, BlockType, ControlCode, SetCode}
use Rattle.block.specs.declared.Class.TheVariants.{Bad}
use Rattle.block.specs.Block.{Format, control_blocks, format_of, vector_of, low_power_vector, kind_for, some, says, good, class_of, kind_in, carries, payload_for, block, carrier_by, carrier, carrier_kind}
use Rattle.block.specs.Rows.{formats}
use Rattle.bits.proofs.Tests.{both_left, both_right, every, is_true}
use Rattle.block.proofs.Reading.{plain_kind}
use Rattle.block.proofs.OldKinds.{not_low, is_low, other, old_kind}
use Rattle.editions.specs.Before.{class_before, carrier_among, carrier_before, kind_before}

-- ---- a block that was received

-- so a block has the class that it had
pub old_class : (h x : ℕ) → class_of Old h x ≡ class_before h x
unfolding class_of class_before
old_class h x =
    ap
    (λ (k : Kind). cond (not (eqb h 1 || eqb h 2)) (Bad Header)
    (cond (eqb h 1 && not (some (λ f. eqb f.type (x % 2 ^ 8)) control_blocks)) (Bad BlockType)
    (cond (says Old 256 (format_of h x) x) (Bad ControlCode) (cond (says Old 512 (format_of h x) x) (Bad SetCode) (good k)))))
    (plain_kind (format_of h x) (vector_of Old (format_of h x) x) (not_low h x))

-- ---- a vector to be sent

plain : (fs : List Format) (v : List ℕ) → T (every (λ f. not (carries Old low_power_vector f.fields)) fs) → carrier_by Old fs v ≡ carrier_among fs v
plain [] v t = refl
plain (f ∷ fs) v t = go (carries Old v f.fields) refl (plain fs v (both_right (not (carries Old low_power_vector f.fields)) _ t))
  where
    not_low_here : T (carries Old v f.fields) → v ≡ low_power_vector → ⊥
    not_low_here u e =
        T_not (carries Old low_power_vector f.fields) (both_left (not (carries Old low_power_vector f.fields)) _ t)
        (subst (λ (w : List ℕ). T (carries Old w f.fields)) e u)

    go : (b : Bool) → carries Old v f.fields ≡ b → carrier_by Old fs v ≡ carrier_among fs v
        → cond b (block (kind_for f v) f.header (payload_for Old v f)) (carrier_by Old fs v) ≡ cond b (block f.kind f.header (payload_for Old v f)) (carrier_among fs v)
    go true e ih = ap (λ (k : Kind). block k f.header (payload_for Old v f)) (plain_kind f v (not_low_here (is_true e)))
    go false e ih = ih

pub old_carrier : (v : List ℕ) → carrier Old v ≡ carrier_before v
unfolding carrier carrier_before
old_carrier v = plain formats v tt

-- ---- no block and no vector was of kind LI

pub block_kind : (h x : ℕ) → kind_in (class_before h x) ≡ LI → ⊥
block_kind h x e = old_kind h x (ap kind_in (old_class h x) ∙ e)

pub vector_kind_lem : (v : List ℕ) → kind_before v ≡ LI → ⊥
unfolding carrier_before
vector_kind_lem v = other _ (among formats tt)
  where
    among : (fs : List Format) → T (every (λ f. not (is_low f.kind)) fs) → T (not (is_low (carrier_kind (carrier_among fs v))))
    among [] t = tt
    among (f ∷ fs) t = go (carries Old v f.fields) (among fs (both_right (not (is_low f.kind)) _ t))
      where
        go : (b : Bool) → T (not (is_low (carrier_kind (carrier_among fs v)))) → T (not (is_low (carrier_kind (cond b (block f.kind f.header (payload_for Old v f)) (carrier_among fs v)))))
        go true ih = both_left (not (is_low f.kind)) _ t
        go false ih = ih
