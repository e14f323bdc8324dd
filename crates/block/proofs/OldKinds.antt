-- No block of the old edition is low power idle, and none is of kind LI. Assumes nothing.
use mathlib.Core.Path.{◌≡◌, ◌∙◌, ap, sym, subst}
use mathlib.Core.Bool.{Bool, true, false, cond, not, ◌&&◌, ◌||◌}
use mathlib.Core.List.{List, [], ◌∷◌}
use Prim.Native.Nat.{ℕ, ◌%◌, ◌^◌}
use native.Mathlib.Omega.{arith}
use lib.Dec.{T, T_not, lit<, eqb, eqb_refl}
use lib.ListN.{get_or}
use Rattle.block.specs.declared.Edition.TheVariants.{Old}
use Rattle.block.specs.declared.Kind.{Kind}
use Rattle.block.specs.declared.Kind.TheVariants.{D, C, S, T as T', E, LI}
use Rattle.block.specs.declared.Reason.TheVariants.{Header, BlockType, ControlCode, SetCode}
use Rattle.block.specs.declared.Class.TheVariants.{Bad}
use Rattle.block.specs.Block.{Slot, Control, Calm, Data, Set, Start, Terminate, control_blocks, controls, sets, without, octet_in, octet_of, control_bit, flag_of, lane_of, format_of, vector_of, low_power_vector, kind_for, some, says, good, class_of, kind_in}
use Rattle.block.specs.Rows.{field_at}
use Rattle.bits.proofs.Tests.{both_left, both_right, all, every}
use Rattle.block.proofs.Formats.{flag_at_lem, sound, all_sound, sound_has, of_format}
use Rattle.block.proofs.Reading.{vector_flag, read_at_lem, plain_kind}
use Rattle.block.proofs.Classes.{kind_good}

-- an octet that no row of a table has is read from no code
no_octet : (z o : ℕ) (ps : List (ℕ × ℕ)) (c : ℕ) → T (every (λ p. not (eqb p.0 o)) ps) → (z ≡ o → ⊥) → octet_in z ps c ≡ o → ⊥
no_octet z o [] c t n e = n e
no_octet z o (p ∷ ps) c t n e = go (eqb p.1 c) (no_octet z o ps c (both_right (not (eqb p.0 o)) _ t) n) e
  where
    go : (b : Bool) → (octet_in z ps c ≡ o → ⊥) → cond b p.0 (octet_in z ps c) ≡ o → ⊥
    go true ih q = T_not (eqb o o) (subst (λ (m : ℕ). T (not (eqb m o))) q (both_left (not (eqb p.0 o)) _ t)) (eqb_refl o)
    go false ih q = ih q

-- no control character of the old edition is 06
no_six : (s : Slot) (c : ℕ) → control_bit s ≡ 1 → octet_of Old s c ≡ 6 → ⊥
no_six Control c b e = no_octet 256 6 controls c tt (λ q. omega arith) e
no_six Calm c b e = no_octet 256 6 (without 0x1e controls) c tt (λ q. omega arith) e
no_six Data c b e = let z : ◌≡◌ {A = ℕ} 0 1 = b in omega arith
no_six Set c b e = no_octet 512 6 sets c tt (λ q. omega arith) e
no_six Start c b e = let z : ◌≡◌ {A = ℕ} 0xfb 6 = e in omega arith
no_six Terminate c b e = let z : ◌≡◌ {A = ℕ} 0xfd 6 = e in omega arith

-- no block of the old edition is low power idle
pub not_low : (h x : ℕ) → vector_of Old (format_of h x) x ≡ low_power_vector → ⊥
not_low h x =
    of_format (λ f. vector_of Old f x ≡ low_power_vector → ⊥) (λ f. all (sound f)) all_sound
    (λ f s q.
    no_six (field_at f.fields 0).slot _
    (sym (flag_at_lem f.fields 0 (sound_has f s 0 (lit< tt))) ∙ sym (vector_flag Old f x 0 (lit< tt)) ∙ ap (λ (v : List ℕ). flag_of v 0) q)
    (sym (read_at_lem Old f x 0 s (lit< tt)) ∙ ap (λ (v : List ℕ). lane_of v 0) q))
    (λ q. let z : ◌≡◌ {A = ℕ} 0 15 = ap (λ (v : List ℕ). get_or v 0 0) q in omega arith) h x

abbrev pub is_low : Kind → Bool
is_low D = false
is_low C = false
is_low S = false
is_low T' = false
is_low E = false
is_low LI = true

pub other : (k : Kind) → T (not (is_low k)) → k ≡ LI → ⊥
other k t e = subst (λ (z : Kind). T (not (is_low z))) e t

-- so none is of kind LI
pub old_kind : (h x : ℕ) → kind_in (class_of Old h x) ≡ LI → ⊥
unfolding class_of
old_kind h x = other _ (go (not (eqb h 1 || eqb h 2)) (eqb h 1 && not (some (λ f. eqb f.type (x % 2 ^ 8)) control_blocks)) (says Old 256 (format_of h x) x) (says Old 512 (format_of h x) x))
  where
    of_kind_lem : T (not (is_low (format_of h x).kind))
    of_kind_lem = of_format (λ f. T (not (is_low f.kind))) (λ f. not (is_low f.kind)) tt (λ f t. t) tt h x

    go : (a b c d : Bool) → T (not (is_low (kind_in (cond a (Bad Header) (cond b (Bad BlockType) (cond c (Bad ControlCode) (cond d (Bad SetCode) (good (kind_for (format_of h x) (vector_of Old (format_of h x) x))))))))))
    go true b c d = tt
    go false true c d = tt
    go false false true d = tt
    go false false false true = tt
    go false false false false =
        subst (λ (k : Kind). T (not (is_low k)))
        (sym (kind_good (kind_for (format_of h x) (vector_of Old (format_of h x) x)) ∙ plain_kind (format_of h x) (vector_of Old (format_of h x) x) (not_low h x))) of_kind_lem
