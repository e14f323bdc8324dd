-- A vector that a block carries is made of octets: no number above 255 is a control character, an ordered set, data, Start or Terminate.
-- Assumes nothing.
use mathlib.Core.Path.{◌≡◌, refl, subst}
use mathlib.Core.Bool.{Bool, true, false, cond}
use mathlib.Core.List.{List, [], ◌∷◌}
use Prim.Native.Nat.{ℕ, zero, suc, ◌≤◌, ◌<◌}
use native.Mathlib.Omega.{arith}
use lib.Dec.{T, eqb, ltb, ltb→lt}
use lib.ListN.{length, get_or, get_or-eq_default}
use borrow.Author.Tests.{ne_eqb, eqb-true}
use Rattle.bits.proofs.Laws.{by_lt}
use Rattle.block.specs.declared.Edition.{Edition}
use Rattle.block.specs.declared.Edition.TheVariants.{Old, New}
use Rattle.block.specs.Block.{Slot, Control, Calm, Data, Set, Start, Terminate, Field, Format, block, none, controls_in, kind_for, sets, without, code_in, code_of, code_for, control_bit, lane_of, flag_of, sent_code, carries, carrier_by, payload_for, carrier}
use Rattle.block.specs.declared.Kind.{Kind}
use Rattle.block.specs.Rows.{formats}
use Rattle.bits.proofs.Tests.{both_left, both_right, all, every, is_true}
use Rattle.block.proofs.Formats.{has, sound, sound_has, all_sound}

-- a table of octets gives a larger number no code
no_code : (missing : ℕ) (table : List (ℕ × ℕ)) (o : ℕ) → T (every (λ p. ltb p.0 256) table) → 256 ≤ o → code_in missing table o ≡ missing
no_code missing [] o t h = refl
no_code missing (p ∷ ps) o t h =
    let small : p.0 < 256 = ltb→lt p.0 256 (both_left (ltb p.0 256) (every (λ p. ltb p.0 256) ps) t) in
    rw (ne_eqb p.0 o (λ e. omega arith)) (no_code missing ps o (both_right (ltb p.0 256) (every (λ p. ltb p.0 256) ps) t) h)

-- the control characters are octets
small_controls : (ed : Edition) → T (every (λ p. ltb p.0 256) (controls_in ed))
small_controls Old = tt
small_controls New = tt

small_calm : (ed : Edition) → T (every (λ p. ltb p.0 256) (without 0x1e (controls_in ed)))
small_calm Old = tt
small_calm New = tt

module _ (ed : Edition) where
  -- a slot takes no number above 255
  large : (s : Slot) (o : ℕ) → 256 ≤ o → 256 ≤ code_of ed s o
  large Control o h = omega (arith, no_code 256 (controls_in ed) o (small_controls ed) h)
  large Calm o h = omega (arith, no_code 256 (without 0x1e (controls_in ed)) o (small_calm ed) h)
  large Data o h = h
  large Set o h = omega (arith, no_code 512 sets o tt h)
  large Start o h = rw (ne_eqb o 0xfb (λ e. omega arith)) (omega arith)
  large Terminate o h = rw (ne_eqb o 0xfd (λ e. omega arith)) (omega arith)

  -- nor does a field
  octet : (s : Slot) (b o : ℕ) → code_for ed s b o < 256 → o < 256
  octet s b o h = by_lt o 256 (λ m. m) (λ m. absurd (go (eqb b (control_bit s)) (large s o m) h))
    where
      go : (z : Bool) → 256 ≤ code_of ed s o → cond z (code_of ed s o) 256 < 256 → ⊥
      go true m k = omega arith
      go false m k = omega arith

  module _ (v : List ℕ) where
    -- the lane of a character that has a field
    lane : (fs : List Field) (p : ℕ) → T (has fs p) → T (carries ed v fs) → lane_of v p < 256
    lane [] p h t = absurd h
    lane (f ∷ fs) p h t = go (eqb f.char p) refl h (λ k. lane fs p k (both_right (ltb (sent_code ed v f) 256) (carries ed v fs) t))
      where
        go : (b : Bool) → eqb f.char p ≡ b → T (cond b true (has fs p)) → (T (has fs p) → lane_of v p < 256) → lane_of v p < 256
        go true e h ih =
            subst (λ (q : ℕ). lane_of v q < 256) (eqb-true f.char p e)
            (octet f.slot (flag_of v f.char) (lane_of v f.char) (ltb→lt (sent_code ed v f) 256 (both_left (ltb (sent_code ed v f) 256) (carries ed v fs) t)))
        go false e h ih = ih h

    -- the eight lanes of a vector that a format carries
    lanes : (fs : List Format) → T (every (λ f. all (sound f)) fs) → (k : Kind) (h x : ℕ) → carrier_by ed fs v ≡ block k h x → (p : ℕ) → p < 8 → lane_of v p < 256
    lanes [] t k h x e p l = absurd (never e)
      where
        never : none ≡ block k h x → ⊥
        never w = let z : ◌≡◌ {A = ℕ} 0 1 = cc in omega arith
    lanes (f ∷ fs) t k h x e p l = go (carries ed v f.fields) refl e (λ r. lanes fs (both_right (all (sound f)) (every (λ f. all (sound f)) fs) t) k h x r p l)
      where
        go : (b : Bool) → carries ed v f.fields ≡ b → cond b (block (kind_for f v) f.header (payload_for ed v f)) (carrier_by ed fs v) ≡ block k h x
            → (carrier_by ed fs v ≡ block k h x → lane_of v p < 256) → lane_of v p < 256
        go true q e ih = lane f.fields p (sound_has f (both_left (all (sound f)) (every (λ f. all (sound f)) fs) t) p l) (is_true q)
        go false q e ih = ih e

  -- every byte of ten, where the control bytes are at most 15
  pub octets : (v : List ℕ) (k : Kind) (h x : ℕ) → carrier ed v ≡ block k h x → length v ≡ 10 → get_or v 0 0 < 16 → get_or v 5 0 < 16 → (n : ℕ) → get_or v n 0 < 256
  unfolding carrier
  octets v k h x e ten low high n = at n
    where
      of_lane : (p : ℕ) → p < 8 → lane_of v p < 256
      of_lane = lanes v formats all_sound k h x e

      at : (n : ℕ) → get_or v n 0 < 256
      at zero = omega arith
      at (suc zero) = of_lane 0 (omega arith)
      at (suc (suc zero)) = of_lane 1 (omega arith)
      at (suc (suc (suc zero))) = of_lane 2 (omega arith)
      at (suc (suc (suc (suc zero)))) = of_lane 3 (omega arith)
      at (suc (suc (suc (suc (suc zero))))) = omega arith
      at (suc (suc (suc (suc (suc (suc zero)))))) = of_lane 4 (omega arith)
      at (suc (suc (suc (suc (suc (suc (suc zero))))))) = of_lane 5 (omega arith)
      at (suc (suc (suc (suc (suc (suc (suc (suc zero)))))))) = of_lane 6 (omega arith)
      at (suc (suc (suc (suc (suc (suc (suc (suc (suc zero))))))))) = of_lane 7 (omega arith)
      at (suc (suc (suc (suc (suc (suc (suc (suc (suc (suc m)))))))))) =
          let z : get_or v (suc (suc (suc (suc (suc (suc (suc (suc (suc (suc m)))))))))) 0 ≡ 0 = get_or-eq_default v 0 (omega arith) in
          omega arith
