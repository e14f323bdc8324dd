-- Four vectors sent one after the other. Assumes nothing.
use Prim.Native.Nat.{ℕ, ◌+◌, ◌*◌, ◌/◌, ◌%◌, ◌^◌, ◌≤◌, ◌<◌}
use mathlib.Core.Path.{◌≡◌, refl, ap, ◌∙◌, subst, sym}
use mathlib.Core.List.{List, [], ◌∷◌}
use native.Mathlib.Nat.{add-zero}
use native.Mathlib.Omega.{arith}
use lib.ListN.{length, get_or, take, drop}
use lib.Seq.{drop-drop}
use Rattle.block.specs.declared.Edition.{Edition}
use Rattle.block.specs.declared.Edition.TheVariants.{New}
use Rattle.block.specs.declared.Kind.TheVariants.{D}
use Rattle.block.specs.Block.{carrier, vectors_in}
use Rattle.block.specs.Coded.{coded_of}
use Rattle.encoding.specs.Parts.{lanes_at}
use Rattle.quick_encoding.proofs.Plain.{data_coded, idle_coded_lem, low_coded}
use Rattle.transmit.specs.declared.Sender.{Sender}
use Rattle.transmit.specs.declared.Step.{Step}
use Rattle.control_bytes.specs.Control.{Low}
use Rattle.encoding.proofs.Vectors.{vector_read}
use Rattle.groups.specs.declared.Group.{Group}
use Rattle.groups.specs.Four.{octets_at, Codes, CodedAlike, AllAre, controls_at, group_of, group_words, SentFour}
use Rattle.transmit.specs.Steps.{idle_coded, low_power_coded, SentAs, SentOne}
use Rattle.transmit.proofs.Laws.{sends_join}

-- the four vectors from a place on
four_vectors : (bytes : List ℕ) (at : ℕ)
    → take 10 (drop at bytes) ∷ take 10 (drop (at + 10) bytes) ∷ take 10 (drop (at + 20) bytes) ∷ take 10 (drop (at + 30) bytes) ∷ [] ≡ vectors_in 4 (drop at bytes)
unfolding vectors_in
four_vectors bytes at =
    let b : drop (at + 10) bytes ≡ drop 10 (drop at bytes) = sym (drop-drop 10 at bytes) in
    let c : drop (at + 20) bytes ≡ drop 10 (drop 10 (drop at bytes)) = sym (drop-drop 10 10 (drop at bytes) ∙ drop-drop 20 at bytes) in
    let d : drop (at + 30) bytes ≡ drop 10 (drop 10 (drop 10 (drop at bytes))) = sym (drop-drop 10 10 (drop 10 (drop at bytes)) ∙ drop-drop 20 10 (drop at bytes) ∙ drop-drop 30 at bytes) in
    λ i. take 10 (drop at bytes) ∷ take 10 (b i) ∷ take 10 (c i) ∷ take 10 (d i) ∷ []

module _ (ed : Edition) where
  -- four steps, each from where the one before ended
  pub four : (bytes : List ℕ) (at : ℕ) (s : Sender) (a b c d : Step) (g : Group) → g ≡ group_of a b c d
      → SentOne ed s (take 10 (drop at bytes)) a → SentOne ed a.next (take 10 (drop (at + 10) bytes)) b
      → SentOne ed b.next (take 10 (drop (at + 20) bytes)) c → SentOne ed c.next (take 10 (drop (at + 30) bytes)) d
      → SentFour ed s (vectors_in 4 (drop at bytes)) g
  four bytes at s a b c d g e p q r t =
      subst (SentFour ed s (vectors_in 4 (drop at bytes))) (sym e)
      (record {
        sends =
            subst (λ (vs : List (List ℕ)). SentAs ed s vs (group_words a.block b.block c.block d.block) d.next) (four_vectors bytes at)
            (sends_join ed s a.next d.next _ _ _ _ p.sends (sends_join ed a.next b.next d.next _ _ _ _ q.sends (sends_join ed b.next c.next d.next _ _ _ _ r.sends t.sends)));
        headers = record { first = p.header; second = q.header; third = r.header; fourth = t.header };
      })

-- ---- the control bytes of four vectors

-- what holds of the two control bytes of each
pub record Pairs (P : ℕ → ℕ → Type 0) (bytes : List ℕ) (at : ℕ) : Type 0 where
  pub first : P (get_or bytes at 0) (get_or bytes (at + 5) 0)
  pub second : P (get_or bytes (at + 10) 0) (get_or bytes (at + 10 + 5) 0)
  pub third : P (get_or bytes (at + 20) 0) (get_or bytes (at + 20 + 5) 0)
  pub fourth : P (get_or bytes (at + 30) 0) (get_or bytes (at + 30 + 5) 0)

module _ (bytes : List ℕ) (at : ℕ) where
  paired : (P : ℕ → ℕ → Type 0) → P (get_or bytes at 0) (get_or bytes (at + 5) 0) → P (get_or bytes (at + 10) 0) (get_or bytes (at + 15) 0)
      → P (get_or bytes (at + 20) 0) (get_or bytes (at + 25) 0) → P (get_or bytes (at + 30) 0) (get_or bytes (at + 35) 0) → Pairs P bytes at
  paired P p q r t =
      let b : at + 15 ≡ at + 10 + 5 = omega arith in
      let c : at + 25 ≡ at + 20 + 5 = omega arith in
      let d : at + 35 ≡ at + 30 + 5 = omega arith in
      record {
        first = p;
        second = subst (λ (i : ℕ). P (get_or bytes (at + 10) 0) (get_or bytes i 0)) b q;
        third = subst (λ (i : ℕ). P (get_or bytes (at + 20) 0) (get_or bytes i 0)) c r;
        fourth = subst (λ (i : ℕ). P (get_or bytes (at + 30) 0) (get_or bytes i 0)) d t;
      }

  -- all data
  pub none_control : controls_at bytes at ≡ 0 → Pairs (λ x y. x + y ≡ 0) bytes at
  none_control e = paired (λ x y. x + y ≡ 0) (omega arith) (omega arith) (omega arith) (omega arith)

  module _ (low : Low bytes) (z : at % 5 ≡ 0) where
    low_word : (j : ℕ) → get_or bytes (at + 5 * j) 0 ≤ 15
    low_word j =
        let e : 5 * (at / 5 + j) ≡ at + 5 * j = omega arith in
        subst (λ (i : ℕ). get_or bytes i 0 ≤ 15) e (low (at / 5 + j))

    pub low_words : (get_or bytes at 0 ≤ 15) × (get_or bytes (at + 5) 0 ≤ 15) × (get_or bytes (at + 10) 0 ≤ 15) × (get_or bytes (at + 15) 0 ≤ 15)
        × (get_or bytes (at + 20) 0 ≤ 15) × (get_or bytes (at + 25) 0 ≤ 15) × (get_or bytes (at + 30) 0 ≤ 15) × (get_or bytes (at + 35) 0 ≤ 15)
    low_words =
        (subst (λ (i : ℕ). get_or bytes i 0 ≤ 15) (add-zero at) (low_word 0), low_word 1, low_word 2, low_word 3, low_word 4, low_word 5, low_word 6, low_word 7)

    pub low_pairs : Pairs (λ x y. (x ≤ 15) × (y ≤ 15)) bytes at
    low_pairs =
        let w = low_words in
        paired (λ x y. (x ≤ 15) × (y ≤ 15)) (w.0, w.1) (w.2, w.3) (w.4, w.5) (w.6, w.7)

    -- all control characters
    pub all_control : controls_at bytes at ≡ 120 → Pairs (λ x y. (x ≡ 15) × (y ≡ 15)) bytes at
    all_control e =
        let w = low_words in
        paired (λ x y. (x ≡ 15) × (y ≡ 15))
        (omega (arith, w), omega (arith, w)) (omega (arith, w), omega (arith, w)) (omega (arith, w), omega (arith, w)) (omega (arith, w), omega (arith, w))

-- ---- a vector of data alone, eight idles, and eight low power idles

module _ (bytes : List ℕ) (at : ℕ) (b : (n : ℕ) → get_or bytes n 0 < 256) (l : at + 10 ≤ length bytes) where
  lanes_lt : (p : ℕ) → lanes_at bytes p < 2 ^ 32
  lanes_lt p = omega (arith, b p, b (p + 1), b (p + 2), b (p + 3))

  pub data_codes : (ed : Edition) (z : ℕ) → z ≡ octets_at bytes at → get_or bytes at 0 + get_or bytes (at + 5) 0 ≡ 0
      → Codes ed bytes at (record { kind = D; header = 2; payload = z })
  data_codes ed z e n =
      let m : get_or bytes at 0 + 16 * get_or bytes (at + 5) 0 ≡ 0 = omega arith in
      ap (λ (x : ℕ). record { kind = D; header = 2; payload = x }) e
      ∙ data_coded ed (get_or bytes at 0) (lanes_at bytes (at + 1)) (get_or bytes (at + 5) 0) (lanes_at bytes (at + 6)) (lanes_lt (at + 1)) (lanes_lt (at + 6)) m
      ∙ ap (λ (v : List ℕ). coded_of (carrier ed v)) (vector_read bytes at (lanes_at bytes (at + 1)) (lanes_at bytes (at + 6)) b l refl refl)

  idle_codes : (ed : Edition) → get_or bytes at 0 ≡ 15 → get_or bytes (at + 5) 0 ≡ 15 → octets_at bytes at ≡ 0x0707070707070707 → Codes ed bytes at idle_coded
  idle_codes ed m n i =
      idle_coded_lem ed (get_or bytes at 0) (lanes_at bytes (at + 1)) (get_or bytes (at + 5) 0) (lanes_at bytes (at + 6)) (omega arith) (omega arith) (lanes_lt (at + 1)) (omega arith) i
      ∙ ap (λ (v : List ℕ). coded_of (carrier ed v)) (vector_read bytes at (lanes_at bytes (at + 1)) (lanes_at bytes (at + 6)) b l refl refl)

  low_power_codes : (ed : Edition) → ed ≡ New → get_or bytes at 0 ≡ 15 → get_or bytes (at + 5) 0 ≡ 15 → octets_at bytes at ≡ 0x0606060606060606 → Codes ed bytes at low_power_coded
  low_power_codes ed e m n i =
      low_coded ed e (get_or bytes at 0) (lanes_at bytes (at + 1)) (get_or bytes (at + 5) 0) (lanes_at bytes (at + 6)) (omega arith) (omega arith) (lanes_lt (at + 1)) (omega arith) i
      ∙ ap (λ (v : List ℕ). coded_of (carrier ed v)) (vector_read bytes at (lanes_at bytes (at + 1)) (lanes_at bytes (at + 6)) b l refl refl)

-- the same of four
module _ (bytes : List ℕ) (at : ℕ) (b : (n : ℕ) → get_or bytes n 0 < 256) (l : at + 40 ≤ length bytes) (low : Low bytes) (z : at % 5 ≡ 0) (full : controls_at bytes at ≡ 120) where
  pub idles_each : (ed : Edition) → AllAre bytes at 0x0707070707070707 → CodedAlike ed bytes at idle_coded
  idles_each ed w =
      let c = all_control bytes at low z full in
      record {
        first = idle_codes bytes at b (omega arith) ed c.first.0 c.first.1 w.first;
        second = idle_codes bytes (at + 10) b (omega arith) ed c.second.0 c.second.1 w.second;
        third = idle_codes bytes (at + 20) b (omega arith) ed c.third.0 c.third.1 w.third;
        fourth = idle_codes bytes (at + 30) b (omega arith) ed c.fourth.0 c.fourth.1 w.fourth;
      }

  pub low_power_each : (ed : Edition) → ed ≡ New → AllAre bytes at 0x0606060606060606 → CodedAlike ed bytes at low_power_coded
  low_power_each ed e w =
      let c = all_control bytes at low z full in
      record {
        first = low_power_codes bytes at b (omega arith) ed e c.first.0 c.first.1 w.first;
        second = low_power_codes bytes (at + 10) b (omega arith) ed e c.second.0 c.second.1 w.second;
        third = low_power_codes bytes (at + 20) b (omega arith) ed e c.third.0 c.third.1 w.third;
        fourth = low_power_codes bytes (at + 30) b (omega arith) ed e c.fourth.0 c.fourth.1 w.fourth;
      }
