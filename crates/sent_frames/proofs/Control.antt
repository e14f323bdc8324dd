-- No word of a control vector has a Start. Assumes nothing.
use Prim.Native.Nat.{ℕ, ◌/◌, ◌%◌}
use mathlib.Core.Path.{◌≡◌, refl, sym, ap, ap₂, ◌∙◌}
use mathlib.Core.Bool.{Bool, true, false, cond, not, ◌&&◌, ◌||◌, true≢false, and-false}
use mathlib.Core.List.{List, [], ◌∷◌}
use native.Mathlib.Omega.{arith}
use lib.Dec.{eqb, ltb}
use lib.ListN.{get_or, take, drop}
use lib.Seq.{get_or-take, get_or-drop}
use borrow.Author.Tests.{eqb-true, not-true}
use Rattle.refusals.proofs.Laws.{by_test}
use Rattle.block.specs.declared.Edition.{Edition}
use Rattle.block.specs.declared.Edition.TheVariants.{Old, New}
use Rattle.block.specs.declared.Kind.TheVariants.{LI}
use Rattle.block.specs.Block.{Field, Format, data_block, control_blocks, is_c, low_power, kind_for, flag_of, lane_of, code_for, sent_code, carries, carrier_kind, carrier_by, carrier, vector_kind}
use Rattle.demands.specs.Words.{control_vector}
use Rattle.frames.specs.Frames.{starts}
use Rattle.frames.proofs.Quiet.{and_both, is_control}

module _ (ed : Edition) where
  -- some field takes character p, and takes no Start
  abbrev pub refuses : ℕ → List Field → Bool
  refuses p [] = false
  refuses p (f ∷ fs) = eqb f.char p && not (ltb (code_for ed f.slot 1 0xfb) 256) || refuses p fs

  -- a format of kind C has one
  abbrev no_start : ℕ → List Format → Bool
  no_start p [] = true
  no_start p (f ∷ fs) = (not (is_c f.kind) || refuses p f.fields) && no_start p fs

  module _ (v : List ℕ) (p : ℕ) (flag : flag_of v p ≡ 1) (lane : lane_of v p ≡ 0xfb) where
    pub not_carried : (fs : List Field) → refuses p fs ≡ true → carries ed v fs ≡ false
    not_carried [] h = absurd (true≢false (sym h))
    not_carried (f ∷ fs) h = go (eqb f.char p && not (ltb (code_for ed f.slot 1 0xfb) 256)) refl h (not_carried fs)
      where
        go : (b : Bool) → (eqb f.char p && not (ltb (code_for ed f.slot 1 0xfb) 256)) ≡ b → (b || refuses p fs) ≡ true
            → (refuses p fs ≡ true → carries ed v fs ≡ false) → (ltb (sent_code ed v f) 256 && carries ed v fs) ≡ false
        go true e h rest =
            let q = and_both (eqb f.char p) (not (ltb (code_for ed f.slot 1 0xfb) 256)) e in
            let c : f.char ≡ p = eqb-true f.char p q.0 in
            let s : sent_code ed v f ≡ code_for ed f.slot 1 0xfb =
            ap₂ (code_for ed f.slot) (ap (flag_of v) c ∙ flag) (ap (lane_of v) c ∙ lane) in
            ap (λ (n : ℕ). ltb n 256 && carries ed v fs) s ∙ ap (λ (b : Bool). b && carries ed v fs) (not-true (ltb (code_for ed f.slot 1 0xfb) 256) q.1)
        go false e h rest = ap (λ (b : Bool). ltb (sent_code ed v f) 256 && b) (rest h) ∙ and-false (ltb (sent_code ed v f) 256)

    -- low power idle is not of kind C
    kind_kept : (f : Format) → is_c f.kind ≡ false → is_c (kind_for f v) ≡ false
    unfolding kind_for
    kind_kept f h = go (low_power f v)
      where
        go : (b : Bool) → is_c (cond b LI f.kind) ≡ false
        go true = refl
        go false = h

    none_control : (fs : List Format) → no_start p fs ≡ true → is_c (carrier_kind (carrier_by ed fs v)) ≡ false
    none_control [] h = refl
    none_control (f ∷ fs) h =
        let q = and_both (not (is_c f.kind) || refuses p f.fields) (no_start p fs) h in
        go (carries ed v f.fields) refl (is_c f.kind) refl q.0 (none_control fs q.1)
      where
        go : (b : Bool) → carries ed v f.fields ≡ b → (c : Bool) → is_c f.kind ≡ c → (not c || refuses p f.fields) ≡ true
            → is_c (carrier_kind (carrier_by ed fs v)) ≡ false → is_c (carrier_kind (carrier_by ed (f ∷ fs) v)) ≡ false
        go false b c e r rest = rw b rest
        go true b false e r rest = rw b (kind_kept f e)
        go true b true e r rest = absurd (true≢false (sym b ∙ not_carried f.fields r))

  -- so a control vector has none as character 0 or 4
  no_start_lem : (v : List ℕ) (p : ℕ) → no_start p (data_block ∷ control_blocks) ≡ true → control_vector ed v ≡ true → flag_of v p ≡ 1 → lane_of v p ≡ 0xfb → ⊥
  unfolding control_vector vector_kind carrier
  no_start_lem v p t h flag lane = true≢false (sym h ∙ none_control v p flag lane (data_block ∷ control_blocks) t)

tested : (ed : Edition) → (no_start ed 0 (data_block ∷ control_blocks) ≡ true) × (no_start ed 4 (data_block ∷ control_blocks) ≡ true)
tested Old = (refl, refl)
tested New = (refl, refl)

-- a word with a Start, by its control byte and its first octet
pub word_start : (w : List ℕ) → starts w ≡ true → (get_or w 0 0 / 1 % 2 ≡ 1) × (get_or w 1 0 ≡ 0xfb)
unfolding starts
word_start w s =
    let c = is_control 0xfb (get_or w 0 0 / 1 % 2) (get_or w 1 0) s in
    (one (get_or w 0 0 / 1) c.0, c.1)
  where
    one : (n : ℕ) → (n % 2 ≡ 0 → ⊥) → n % 2 ≡ 1
    one n h = omega arith

word_none : (w : List ℕ) → (get_or w 0 0 / 1 % 2 ≡ 1 → get_or w 1 0 ≡ 0xfb → ⊥) → starts w ≡ false
word_none w n = by_test (starts w) (λ t. let c = word_start w t in absurd (n c.0 c.1)) (λ t. t)

module _ (ed : Edition) (bytes : List ℕ) (h : control_vector ed (take 10 bytes) ≡ true) where
  pub first_none : starts (take 5 bytes) ≡ false
  first_none =
      word_none (take 5 bytes)
      (λ f o. no_start_lem ed (take 10 bytes) 0 (tested ed).0 h
      (ap (λ (n : ℕ). n / 1 % 2) (get_or-take 10 bytes 0 0 (omega arith) ∙ sym (get_or-take 5 bytes 0 0 (omega arith))) ∙ f)
      (get_or-take 10 bytes 1 0 (omega arith) ∙ sym (get_or-take 5 bytes 1 0 (omega arith)) ∙ o))

  pub second_none : starts (take 5 (drop 5 bytes)) ≡ false
  second_none =
      word_none (take 5 (drop 5 bytes))
      (λ f o. no_start_lem ed (take 10 bytes) 4 (tested ed).1 h
      (ap (λ (n : ℕ). n / 1 % 2) (get_or-take 10 bytes 5 0 (omega arith) ∙ sym (get_or-take 5 (drop 5 bytes) 0 0 (omega arith) ∙ get_or-drop 5 bytes 0 0)) ∙ f)
      (get_or-take 10 bytes 6 0 (omega arith) ∙ sym (get_or-take 5 (drop 5 bytes) 1 0 (omega arith) ∙ get_or-drop 5 bytes 1 0) ∙ o))
