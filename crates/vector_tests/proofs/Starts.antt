-- The control bytes of a vector of kind S. Assumes nothing.
use Prim.Native.Nat.{ℕ, ◌≤◌, ◌<◌}
use mathlib.Core.Path.{◌≡◌, sym}
use mathlib.Core.Bool.{Bool, true, false, not, ◌&&◌, ◌||◌, true≢false}
use mathlib.Core.List.{List, [], ◌∷◌}
use native.Mathlib.Omega.{arith}
use lib.Dec.{T, leb, leb→le, T_not}
use lib.ListN.{get_or}
use Rattle.refusals.proofs.Laws.{by_test}
use Rattle.bits.proofs.Tests.{both_left, both_right, or_right, all, every, is_true}
use Rattle.block.specs.declared.Edition.TheVariants.{New}
use Rattle.block.specs.declared.Kind.{Kind}
use Rattle.block.specs.Block.{Format, is_s, flags_at, carries, carrier_by, carrier, carrier_kind, vector_kind}
use Rattle.block.specs.Rows.{formats}
use Rattle.block.proofs.Formats.{sound, all_sound}
use Rattle.block.proofs.Reading.{kind_for_lem}
use Rattle.block.proofs.Sending.{carried_flags}
use Rattle.vector_tests.specs.Tests.{of_kind_s}

-- a format of kind S has a control character in its first word, and in its second at most the first
abbrev early : Format → Bool
early f = not (is_s f.kind) || (leb 1 (flags_at f.fields 0) && leb (flags_at f.fields 4) 1)

all_early : T (every early formats)
all_early = tt

module _ (v : List ℕ) (low : get_or v 0 0 < 16) (high : get_or v 5 0 < 16) where
  -- so has a vector that one carries
  abbrev Early : Type 0
  Early = (1 ≤ get_or v 0 0) × (get_or v 5 0 ≤ 1)

  of_format : (f : Format) → T (all (sound f)) → T (early f) → T (carries New v f.fields) → is_s f.kind ≡ true → Early
  of_format f s e c k =
      let b = carried_flags New v f low high s c in
      let t = or_right (not (is_s f.kind)) (leb 1 (flags_at f.fields 0) && leb (flags_at f.fields 4) 1) e (λ n. T_not (is_s f.kind) n (is_true k)) in (
        omega (arith, b.0, leb→le 1 (flags_at f.fields 0) (both_left (leb 1 (flags_at f.fields 0)) (leb (flags_at f.fields 4) 1) t)),
        omega (arith, b.1, leb→le (flags_at f.fields 4) 1 (both_right (leb 1 (flags_at f.fields 0)) (leb (flags_at f.fields 4) 1) t)),
      )

  of_formats : (fs : List Format) → T (every (λ f. all (sound f)) fs) → T (every early fs) → is_s (carrier_kind (carrier_by New fs v)) ≡ true → Early
  of_formats [] s e k = absurd (true≢false (sym k))
  of_formats (f ∷ fs) s e k =
      by_test (carries New v f.fields)
      (λ c.
      kind_for_lem (λ (x : Kind). is_s x ≡ true → Early) f v (λ q. absurd (true≢false (sym q)))
      (of_format f (both_left (all (sound f)) (every (λ f. all (sound f)) fs) s) (both_left (early f) (every early fs) e) (is_true c))
      (rw c at k))
      (λ c. of_formats fs (both_right (all (sound f)) (every (λ f. all (sound f)) fs) s) (both_right (early f) (every early fs) e) (rw c at k))

  start_early : of_kind_s v ≡ true → Early
  unfolding vector_kind carrier
  start_early k = of_formats formats all_sound all_early k

  -- a vector with other control bytes is not of kind S
  pub no_start_lem : (Early → ⊥) → false ≡ of_kind_s v
  no_start_lem n = by_test (of_kind_s v) (λ t. absurd (n (start_early t))) (λ t. sym t)
