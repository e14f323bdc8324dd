-- The codes of a row's fields, one after the other.
use mathlib.Core.Path.{◌≡◌, refl, ◌∙◌, ap, subst, sym}
use mathlib.Core.Bool.{Bool, true, false, cond, ◌&&◌}
use mathlib.Core.List.{List, [], ◌∷◌, ◌++◌}
use Prim.Native.Nat.{ℕ, zero, suc, ◌+◌, ◌*◌, ◌^◌, ◌<◌, ◌≤◌, zero-le}
use native.Mathlib.Nat.{mul_assoc, mul-add, add_assoc, add-zero, mul-zero, lt_of_lt_of_le, le_of_suc-le-suc, not-suc-le-zero}
use native.Mathlib.Omega.{arith}
use native.Mathlib.Numerals.{add-one}
use lib.Dec.{T, leb, ltb}
use lib.ListN.{length, get_or, take}
use lib.Seq.{take-suc, take_all}
use lib.Pow.{pow_mono, pow-add}
use borrow.Author.Tests.{lt-ltb, le-ltb, ltb-true, ltb-false}
use Rattle.std.specs.Prelude.{Some, None}
use Rattle.block.specs.declared.Edition.{Edition}
use Rattle.block.specs.Block.{Field, d, sent_code, packed, carries, payload_for}
use Rattle.block.specs.Rows.{width, bits_of, row}
use Rattle.bits.proofs.Tests.{is_true}
use Rattle.block.proofs.Formats.{roomy, sound_length, sound_roomy, sound_bits, sound_type, row_sound}
use Rattle.block.proofs.Sending.{field_lt, packed_lt, above_lt}
use Rattle.fields.specs.Parts.{field_in, place_of_field}
use Rattle.fields.specs.Parts.{code_as, sum_by}
use Rattle.fields.proofs.Fields.{field_room}

-- ---- fields, whatever the edition

roomy_take : (fs : List Field) (m : ℕ) → T (roomy fs) → T (roomy (take m fs))
roomy_take fs zero t = tt
roomy_take [] (suc m) t = tt
roomy_take (f ∷ fs) (suc m) t = go (leb (width f.slot) f.bits) t (roomy_take fs m)
  where
    go : (b : Bool) → T (b && roomy fs) → (T (roomy fs) → T (roomy (take m fs))) → T (b && roomy (take m fs))
    go true t ih = ih t
    go false t ih = t

bits_take : (fs : List Field) (m : ℕ) → bits_of (take m fs) ≤ bits_of fs
bits_take fs zero = zero-le
bits_take [] (suc m) = zero-le
bits_take (f ∷ fs) (suc m) = omega (arith, bits_take fs m)

-- ---- a code, or none

pub some_code : (c n : ℕ) → Some c ≡ code_as n → (c ≡ n) × (n < 256)
some_code c n e = go (ltb n 256) refl e
  where
    go : (b : Bool) → ltb n 256 ≡ b → Some c ≡ cond b (Some n) None → (c ≡ n) × (n < 256)
    go true t e = (cc, ltb-true n 256 t)
    go false t e = absurd cc

pub no_code : (n : ℕ) → None ≡ code_as n → 256 ≤ n
no_code n e = go (ltb n 256) refl e
  where
    go : (b : Bool) → ltb n 256 ≡ b → None ≡ cond b (Some n) None → 256 ≤ n
    go true t e = absurd cc
    go false t e = ltb-false n 256 t

module _ (ed : Edition) where
  -- ---- one field more

  module _ (v : List ℕ) where
    packed_snoc : (fs : List Field) (f : Field) → packed ed v (fs ++ f ∷ []) ≡ packed ed v fs + 2 ^ bits_of fs * sent_code ed v f
    packed_snoc [] f = omega arith
    packed_snoc (g ∷ fs) f =
        ap (λ (n : ℕ). sent_code ed v g + 2 ^ g.bits * n) (packed_snoc fs f)
        ∙ ap (λ (n : ℕ). sent_code ed v g + n) (mul-add (2 ^ g.bits) (packed ed v fs) (2 ^ bits_of fs * sent_code ed v f))
        ∙ sym (add_assoc (sent_code ed v g) (2 ^ g.bits * packed ed v fs) (2 ^ g.bits * (2 ^ bits_of fs * sent_code ed v f)))
        ∙ ap (λ (n : ℕ). sent_code ed v g + 2 ^ g.bits * packed ed v fs + n)
        (sym (mul_assoc (2 ^ g.bits) (2 ^ bits_of fs) (sent_code ed v f)) ∙ ap (λ (n : ℕ). n * sent_code ed v f) (sym (pow-add 2 g.bits (bits_of fs))))

    carries_snoc : (fs : List Field) (f : Field) → carries ed v fs ≡ true → sent_code ed v f < 256 → carries ed v (fs ++ f ∷ []) ≡ true
    carries_snoc [] f e h = ap (λ (b : Bool). b && true) (lt-ltb (sent_code ed v f) 256 h)
    carries_snoc (g ∷ fs) f e h = go (ltb (sent_code ed v g) 256) e (λ k. carries_snoc fs f k h)
      where
        go : (b : Bool) → (b && carries ed v fs) ≡ true → (carries ed v fs ≡ true → carries ed v (fs ++ f ∷ []) ≡ true) → (b && carries ed v (fs ++ f ∷ [])) ≡ true
        go true e ih = ih e
        go false e ih = e

    carries_not : (fs : List Field) (i : ℕ) (z : Field) → i < length fs → 256 ≤ sent_code ed v (get_or fs i z) → carries ed v fs ≡ false
    carries_not [] i z h k = absurd (not-suc-le-zero h)
    carries_not (g ∷ fs) zero z h k = ap (λ (b : Bool). b && carries ed v fs) (le-ltb (sent_code ed v g) 256 k)
    carries_not (g ∷ fs) (suc i) z h k = go (ltb (sent_code ed v g) 256) (carries_not fs i z (le_of_suc-le-suc h) k)
      where
        go : (b : Bool) → carries ed v fs ≡ false → (b && carries ed v fs) ≡ false
        go true e = e
        go false e = refl

  -- ---- the loop over the fields of a row: the payload of the first n fields, which take their characters

  pub record Filled (r : ℕ) (v : List ℕ) (n payload : ℕ) : Type 0 where
    pub inside : n ≤ 8
    pub sum : payload ≡ (row r).type + 2 ^ (row r).lead * packed ed v (take n (row r).fields)
    pub fit : carries ed v (take n (row r).fields) ≡ true

  pub filled_none : (r : ℕ) (v : List ℕ) (payload : ℕ) → payload ≡ (row r).type → Filled r v 0 payload
  filled_none r v payload e =
      record { inside = omega arith; sum = e ∙ sym (ap (λ (n : ℕ). (row r).type + n) (mul-zero (2 ^ (row r).lead)) ∙ add-zero (row r).type); fit = refl }

  module _ (r : ℕ) (v : List ℕ) (hr : r < 16) where
    -- what is filled fits a word
    pub filled_lt : (n payload : ℕ) → Filled r v n payload → payload < 2 ^ 64
    filled_lt n payload w =
        let fs = take n (row r).fields in
        let p : packed ed v fs < 2 ^ bits_of fs = packed_lt ed v fs (roomy_take (row r).fields n (sound_roomy (row r) (row_sound r hr))) (is_true w.fit) in
        let b : (row r).lead + bits_of fs ≤ 64 = omega (arith, bits_take (row r).fields n, sound_bits (row r) (row_sound r hr)) in
        subst (λ (m : ℕ). m < 2 ^ 64) (sym w.sum) (lt_of_lt_of_le (above_lt (row r).lead (bits_of fs) (sound_type (row r) (row_sound r hr)) p) (pow_mono b))

    module _ (n : ℕ) (hn : n < 8) where
      one_more_lem : take (n + 1) (row r).fields ≡ take n (row r).fields ++ field_in r n ∷ []
      one_more_lem = ap (λ (m : ℕ). take m (row r).fields) (add-one n) ∙ take-suc (row r).fields n (d 0) (omega (arith, sound_length (row r) (row_sound r hr)))

      pub room : sent_code ed v (field_in r n) < 256 → sent_code ed v (field_in r n) < 2 ^ (field_in r n).bits
      room h = field_lt ed v (field_in r n) (field_room r n hr hn) h

      pub filled_more : (payload : ℕ) → Filled r v n payload → sent_code ed v (field_in r n) < 256 → Filled r v (n + 1) (payload + 2 ^ place_of_field r n * sent_code ed v (field_in r n))
      filled_more payload w h =
          record {
            inside = omega arith;
            sum =
                ap (λ (m : ℕ). m + 2 ^ place_of_field r n * sent_code ed v (field_in r n)) w.sum
                ∙ add_assoc (row r).type (l * p) (2 ^ place_of_field r n * z)
                ∙ ap (λ (m : ℕ). (row r).type + (l * p + m * z)) (pow-add 2 (row r).lead (bits_of (take n (row r).fields)))
                ∙ ap (λ (m : ℕ). (row r).type + (l * p + m)) (mul_assoc l b z)
                ∙ ap (λ (m : ℕ). (row r).type + m) (sym (mul-add l p (b * z)))
                ∙ ap (λ (m : ℕ). (row r).type + l * m) (sym (packed_snoc v (take n (row r).fields) (field_in r n)) ∙ ap (packed ed v) (sym one_more_lem));
            fit = ap (carries ed v) one_more_lem ∙ carries_snoc v (take n (row r).fields) (field_in r n) w.fit h;
          }
        where
          l : ℕ
          l = 2 ^ (row r).lead

          p : ℕ
          p = packed ed v (take n (row r).fields)

          b : ℕ
          b = 2 ^ bits_of (take n (row r).fields)

          z : ℕ
          z = sent_code ed v (field_in r n)

      pub not_filled : 256 ≤ sent_code ed v (field_in r n) → None ≡ sum_by ed v (row r)
      not_filled h =
          sym (ap (λ (b : Bool). cond b (Some (payload_for ed v (row r))) None)
          (carries_not v (row r).fields n (d 0) (omega (arith, sound_length (row r) (row_sound r hr))) h))

    pub all_filled : (n payload : ℕ) → 8 ≤ n → Filled r v n payload → Some payload ≡ sum_by ed v (row r)
    all_filled n payload h w =
        let e : take n (row r).fields ≡ (row r).fields = take_all n (row r).fields (omega (arith, sound_length (row r) (row_sound r hr))) in
        let s : payload ≡ payload_for ed v (row r) = w.sum ∙ ap (λ (l : List Field). (row r).type + 2 ^ (row r).lead * packed ed v l) e in
        ap Some s
        ∙ sym (ap (λ (b : Bool). cond b (Some (payload_for ed v (row r))) None) (sym (ap (carries ed v) e) ∙ w.fit))
