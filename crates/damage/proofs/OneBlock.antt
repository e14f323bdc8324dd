-- A block that was sent beside one that is near it: the second is of kind E, or it has the control characters of the first, and its data
-- bits at the same places.
use mathlib.Core.Path.{◌≡◌, refl, sym, ap, ◌∙◌, subst}
use mathlib.Core.List.{List}
use mathlib.Core.Logic.{◌⊎◌, inl, inr}
use Prim.Native.Nat.{ℕ, ◌+◌, ◌^◌, ◌<◌}
use native.Mathlib.Omega.{arith}
use lib.Dec.{T}
use lib.ListN.{get_or}
use Rattle.bits.specs.Bits.{bit}
use Rattle.line.specs.declared.Block.{Block}
use Rattle.block.specs.declared.Edition.{Edition}
use Rattle.block.specs.Block.{data_block, control_blocks, flag_at, flag_of, lane_of, by_type, format_of, kind_of, decoded}
use Rattle.block.specs.Distance.{Near}
use Rattle.block.specs.declared.Kind.TheVariants.{E}
use Rattle.bits.proofs.Tests.{all, eight}
use Rattle.block.proofs.Reading.{good_vector, vector_flag, data_inside}
use Rattle.block.proofs.Near.{apart, near_blocks, near_error, data_bits_at}
use Rattle.transmit.specs.Send.{error_block}
use Rattle.damage.specs.Demand3.{sent_vector, place, SameControl}
use Rattle.damage.proofs.Headers.{Header}

module _ (ed : Edition) where
  -- a block that is sent: it has a header and 64 payload bits, and is the block of state E or not of kind E
  pub record Sent (b : Block) : Type 0 where
    pub header_is : Header b.header
    pub payload_lt : b.payload < 2 ^ 64
    pub error_or_valid : (b ≡ error_block) ⊎ (kind_of ed b.header b.payload ≡ E → ⊥)

  -- ---- two blocks of one header, neither of kind E

  -- a data block has no control character
  no_control : (x p : ℕ) → (kind_of ed 2 x ≡ E → ⊥) → p < 8 → flag_of (decoded ed 2 x) p ≡ 0
  no_control x p g h =
      ap (λ (v : List ℕ). flag_of v p) (good_vector ed 2 x g) ∙ vector_flag ed data_block x p h
      ∙ eight (λ (p : ℕ). flag_at data_block.fields p ≡ 0) refl refl refl refl refl refl refl refl p h

  -- the format and the control characters are the same
  abbrev Alike : ℕ → ℕ → ℕ → Type 0
  Alike h x y = (format_of h x ≡ format_of h y) × SameControl (decoded ed h x) (decoded ed h y)

  -- so it is where they are near
  alike : (k h x y : ℕ) → T (all (apart ed k)) → Near k x y → Header h → (kind_of ed h x ≡ E → ⊥) → (kind_of ed h y ≡ E → ⊥) → Alike h x y
  alike k h x y t n (inl e) =
      subst (λ (h : ℕ). (kind_of ed h x ≡ E → ⊥) → (kind_of ed h y ≡ E → ⊥) → Alike h x y) (sym e)
      (λ gx gy. (
        refl,
        record {
          first_flags = ap (λ (v : List ℕ). get_or v 0 0) (good_vector ed 2 y gy) ∙ sym (ap (λ (v : List ℕ). get_or v 0 0) (good_vector ed 2 x gx));
          second_flags = ap (λ (v : List ℕ). get_or v 5 0) (good_vector ed 2 y gy) ∙ sym (ap (λ (v : List ℕ). get_or v 5 0) (good_vector ed 2 x gx));
          characters = λ p l f. absurd (let z : ◌≡◌ {A = ℕ} 0 1 = sym (no_control x p gx l) ∙ f in omega arith);
        },
      ))
  alike k h x y t n (inr e) =
      subst (λ (h : ℕ). (kind_of ed h x ≡ E → ⊥) → (kind_of ed h y ≡ E → ⊥) → Alike h x y) (sym e)
      (λ gx gy.
      let a = near_blocks ed k x y t n gx gy in (
        ap (by_type control_blocks) a.same_types,
        record {
          first_flags = sym a.same_lows;
          second_flags = sym a.same_highs;
          characters = λ p l f. sym (a.same_controls p l f);
        },
      ))

  -- ---- the law

  -- bit j of data character p, in a block that was sent and in what was read of it, is the payload's bit at one and the same place
  abbrev pub DataPlaces : Block → (h x : ℕ) → Type 0
  DataPlaces b h x =
      (p j : ℕ) → p < 8 → j < 8 → flag_of (sent_vector ed b) p ≡ 0
      → (bit (lane_of (sent_vector ed b) p) j ≡ bit b.payload (place b p + j)) × (bit (lane_of (decoded ed h x) p) j ≡ bit x (place b p + j)) × (place b p + j < 64)

  -- the block that is read of one that was sent, where it is not of kind E
  pub one_block : (k : ℕ) (b : Block) (h x : ℕ) → T (all (apart ed k)) → Sent b → (h ≡ b.header) ⊎ ((x : ℕ) → kind_of ed h x ≡ E)
      → Near k b.payload x → (kind_of ed h x ≡ E → ⊥) → SameControl (sent_vector ed b) (decoded ed h x) × DataPlaces b h x
  one_block k b h x t s (inr e) n = λ g. absurd (g (e x))
  one_block k b h x t s (inl e) n =
      subst (λ (h : ℕ). (kind_of ed h x ≡ E → ⊥) → SameControl (sent_vector ed b) (decoded ed h x) × DataPlaces b h x) (sym e) (go s.error_or_valid)
    where
      go : (b ≡ error_block) ⊎ (kind_of ed b.header b.payload ≡ E → ⊥) → (kind_of ed b.header x ≡ E → ⊥)
          → SameControl (sent_vector ed b) (decoded ed b.header x) × DataPlaces b b.header x
      go (inl q) g =
          absurd
          (near_error ed k error_block.payload x t (subst (λ (c : Block). Near k c.payload x) q n) refl refl
          (subst (λ (c : Block). kind_of ed c.header x ≡ E → ⊥) q g))
      go (inr v) g =
          let a = alike k b.header b.payload x t n s.header_is v g in (
            a.1,
            λ p j lp lj z.
                let d = data_bits_at ed b.header b.payload x p v g a.0 lp z j lj in
                let i = data_inside ed b.header b.payload p v lp z in
                (d.0, d.1, omega arith),
          )
