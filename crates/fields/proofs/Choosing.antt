-- Which rows are tried: only a format with the vector's control bits can carry it.
use mathlib.Core.Path.{◌≡◌, refl, ◌∙◌, ap, subst, sym}
use mathlib.Core.Bool.{Bool, true, false, cond, ◌||◌}
use mathlib.Core.List.{List, [], ◌∷◌}
use Prim.Native.Nat.{ℕ, zero, suc, ◌+◌, ◌*◌, ◌<◌, ◌≤◌}
use native.Mathlib.Nat.{le_of_suc-le-suc, not-suc-le-zero}
use native.Mathlib.Omega.{arith}
use lib.Dec.{T, eqb, eqb→eq}
use lib.ListN.{length, get_or, drop, length-drop, drop_of_length-le}
use lib.Seq.{drop-drop, drop-cons, get_or-drop}
use borrow.Author.Tests.{eqb-true, eqb-false}
use Rattle.block.specs.declared.Edition.{Edition}
use Rattle.block.specs.declared.Kind.{Kind}
use Rattle.block.specs.declared.Kind.TheVariants.{E}
use Rattle.block.specs.Block.{Format, no_format, kind_for, carries, payload_for, block, carrier_by, carrier, error_payload}
use Rattle.block.specs.Rows.{formats, row, SameFlags}
use Rattle.refusals.proofs.Laws.{by_test}
use Rattle.bits.proofs.Tests.{both_left, both_right, or_right, all, every, every_at, is_true}
use Rattle.block.proofs.Formats.{sound, all_sound, flags_lt}
use Rattle.block.proofs.Sending.{carried_flags}
use Rattle.fields.specs.Parts.{flags_of, seek, first_by, next_by}
use Rattle.std.specs.Prelude.{Option, Some, None}
use Rattle.block.specs.Coded.{coded_of}
use Rattle.fields.specs.Parts.{sum_by}

-- ---- seeking a format with some control bits

seek_flags : (m : ℕ) (fs : List Format) → seek m fs < length fs → flags_of (get_or fs (seek m fs) no_format) ≡ m
seek_flags m [] h = absurd (not-suc-le-zero h)
seek_flags m (f ∷ fs) h = go (eqb (flags_of f) m) refl h (seek_flags m fs)
  where
    go : (b : Bool) → eqb (flags_of f) m ≡ b → cond b 0 (suc (seek m fs)) < suc (length fs) → (seek m fs < length fs → flags_of (get_or fs (seek m fs) no_format) ≡ m)
        → flags_of (get_or (f ∷ fs) (cond b 0 (suc (seek m fs))) no_format) ≡ m
    go true e h ih = eqb-true (flags_of f) m e
    go false e h ih = ih (le_of_suc-le-suc h)

every_drop : (q : Format → Bool) (n : ℕ) (fs : List Format) → T (every q fs) → T (every q (drop n fs))
every_drop q zero fs t = t
every_drop q (suc n) [] t = tt
every_drop q (suc n) (f ∷ fs) t = every_drop q n fs (both_right (q f) (every q fs) t)

same_flags : (v : List ℕ) (f : Format) → get_or v 0 0 < 16 → flags_of f ≡ get_or v 0 0 + 16 * get_or v 5 0 → SameFlags v f
same_flags v f h e = (omega (arith, flags_lt f.fields 0), omega (arith, flags_lt f.fields 0))

-- the next row is a later one
pub next_gt : (r : ℕ) → r < next_by r
next_gt r = omega arith

abbrev one_header : Format → Bool
one_header f = eqb (flags_of f) 0 || eqb f.header 1

module _ (ed : Edition) where
  -- ---- a vector to be sent

  module _ (v : List ℕ) (low : get_or v 0 0 < 16) (high : get_or v 5 0 < 16) where
    -- a format with other control bits does not carry the vector
    other : (f : Format) → T (all (sound f)) → (flags_of f ≡ get_or v 0 0 + 16 * get_or v 5 0 → ⊥) → carries ed v f.fields ≡ false
    other f s n =
        by_test (carries ed v f.fields)
        (λ e. let w : SameFlags v f = carried_flags ed v f low high s (is_true e) in absurd (n (omega arith)))
        (λ e. e)

    -- so all before the one that is sought can be left out
    sought : (fs : List Format) → T (every (λ f. all (sound f)) fs)
        → carrier_by ed fs v ≡ carrier_by ed (drop (seek (get_or v 0 0 + 16 * get_or v 5 0) fs) fs) v
    sought [] t = refl
    sought (f ∷ fs) t =
        go (eqb (flags_of f) (get_or v 0 0 + 16 * get_or v 5 0)) refl (sought fs (both_right (all (sound f)) (every (λ f. all (sound f)) fs) t))
      where
        m : ℕ
        m = get_or v 0 0 + 16 * get_or v 5 0

        go : (b : Bool) → eqb (flags_of f) (get_or v 0 0 + 16 * get_or v 5 0) ≡ b
            → carrier_by ed fs v ≡ carrier_by ed (drop (seek (get_or v 0 0 + 16 * get_or v 5 0) fs) fs) v
            → carrier_by ed (f ∷ fs) v ≡ carrier_by ed (drop (cond b 0 (suc (seek (get_or v 0 0 + 16 * get_or v 5 0) fs))) (f ∷ fs)) v
        go true e ih = refl
        go false e ih =
            ap (λ (b : Bool). cond b (block (kind_for f v) f.header (payload_for ed v f)) (carrier_by ed fs v))
            (other f (both_left (all (sound f)) (every (λ f. all (sound f)) fs) t) (eqb-false (flags_of f) (get_or v 0 0 + 16 * get_or v 5 0) e))
            ∙ ih

  -- ---- the loop over the rows: the rows before r do not carry the vector, and row r has its control bits

  pub record Trying (v : List ℕ) (r : ℕ) : Type 0 where
    pub still : carrier ed v ≡ carrier_by ed (drop r formats) v
    pub flags : r < 16 → SameFlags v (row r)

  module _ (v : List ℕ) (low : get_or v 0 0 < 16) (high : get_or v 5 0 < 16) where
    pub first_try : (r : ℕ) → r ≡ first_by (get_or v 0 0 + 16 * get_or v 5 0) → Trying v r
    unfolding carrier
    first_try r e =
        record {
          still = sought v low high formats all_sound ∙ ap (λ (n : ℕ). carrier_by ed (drop n formats) v) (sym e);
          flags = λ h. same_flags v (row r) low (ap (λ (n : ℕ). flags_of (row n)) e ∙ seek_flags (get_or v 0 0 + 16 * get_or v 5 0) formats (subst (λ (n : ℕ). n < 16) e h));
        }

    -- a row that does not carry the vector is passed, with those that have other control bits
    pub next_try : (r n : ℕ) → r < 16 → Trying v r → carries ed v (row r).fields ≡ false → n ≡ next_by r → Trying v n
    unfolding carrier
    next_try r n hr w left e =
        record {
          still =
              w.still ∙ passed ∙ sought v low high after sound_after ∙ ap (λ (k : ℕ). carrier_by ed (drop (seek k after) after) v) (sym same) ∙ ap
              (λ (l : List Format). carrier_by ed l v) (drop-drop (seek (flags_of (row r)) after) (suc r) formats) ∙ ap
              (λ (k : ℕ). carrier_by ed (drop k formats) v) (sym e);
          flags = λ h. same_flags v (row n) low (ap (λ (k : ℕ). flags_of (row k)) e ∙ found h ∙ same);
        }
      where
        after : List Format
        after = drop (suc r) formats

        sound_after : T (every (λ f. all (sound f)) (drop (suc r) formats))
        sound_after = every_drop (λ f. all (sound f)) (suc r) formats all_sound

        same : flags_of (row r) ≡ get_or v 0 0 + 16 * get_or v 5 0
        same = let z = w.flags hr in omega arith

        passed : carrier_by ed (drop r formats) v ≡ carrier_by ed (drop (suc r) formats) v
        passed =
            ap (λ (l : List Format). carrier_by ed l v) (drop-cons formats r no_format hr)
            ∙ ap (λ (b : Bool). cond b (block (kind_for (row r) v) (row r).header (payload_for ed v (row r))) (carrier_by ed (drop (suc r) formats) v)) left

        found : n < 16 → flags_of (row (next_by r)) ≡ flags_of (row r)
        found h =
            let l : seek (flags_of (row r)) after < length after = omega (arith, length-drop (suc r) formats) in
            ap flags_of (sym (get_or-drop (suc r) formats (seek (flags_of (row r)) after) no_format)) ∙ seek_flags (flags_of (row r)) after l

  -- ---- what the loop answers

  -- a row that carries the vector, which has a control character
  pub tried : (v : List ℕ) (r : ℕ) (k : Kind) (payload : ℕ) → r < 16 → Trying v r → 0 < get_or v 0 0 + 16 * get_or v 5 0 → k ≡ kind_for (row r) v → Some payload ≡ sum_by ed v (row r)
      → record { kind = k; header = 1; payload = payload } ≡ coded_of (carrier ed v)
  tried v r k payload hr w some q e =
      by_test (carries ed v (row r).fields) carried (λ c. absurd (not_carried (sum false c)))
    where
      sum : (b : Bool) → carries ed v (row r).fields ≡ b → Some payload ≡ cond b (Some (payload_for ed v (row r))) None
      sum b c = e ∙ ap (λ (b : Bool). cond b (Some (payload_for ed v (row r))) None) c

      not_carried : ◌≡◌ {A = Option ℕ} (Some payload) None → ⊥
      not_carried e = cc

      header : (row r).header ≡ 1
      header =
          let z = w.flags hr in
          eqb→eq (row r).header 1
          (or_right (eqb (flags_of (row r)) 0) (eqb (row r).header 1) (every_at one_header formats no_format r tt hr) (λ t. let y = eqb→eq (flags_of (row r)) 0 t in absurd (omega arith)))

      carried : carries ed v (row r).fields ≡ true → record { kind = k; header = 1; payload = payload } ≡ coded_of (carrier ed v)
      carried c =
          sym (ap coded_of
          (w.still
          ∙ ap (λ (l : List Format). carrier_by ed l v) (drop-cons formats r no_format hr)
          ∙ ap (λ (b : Bool). cond b (block (kind_for (row r) v) (row r).header (payload_for ed v (row r))) (carrier_by ed (drop (suc r) formats) v)) c)
          ∙ (λ i. record { kind = sym q i; header = header i; payload = sym (same (sum true c)) i }))
        where
          same : ◌≡◌ {A = Option ℕ} (Some payload) (Some (payload_for ed v (row r))) → payload ≡ payload_for ed v (row r)
          same e = cc

  -- no row
  pub none_tried : (v : List ℕ) (r : ℕ) → 16 ≤ r → Trying v r → record { kind = E; header = 1; payload = error_payload } ≡ coded_of (carrier ed v)
  none_tried v r h w = sym (ap coded_of (w.still ∙ ap (λ (l : List Format). carrier_by ed l v) (drop_of_length-le formats h)))

  -- a row that does not
  pub not_tried : (v : List ℕ) (r : ℕ) → None ≡ sum_by ed v (row r) → carries ed v (row r).fields ≡ false
  not_tried v r e =
      by_test (carries ed v (row r).fields)
      (λ c. absurd (never (e ∙ ap (λ (b : Bool). cond b (Some (payload_for ed v (row r))) None) c)))
      (λ c. c)
    where
      never : ◌≡◌ {A = Option ℕ} None (Some (payload_for ed v (row r))) → ⊥
      never e = cc
