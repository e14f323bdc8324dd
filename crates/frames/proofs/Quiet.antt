-- The tests of one word, and what they say of a frame that is open there. Assumes nothing.
use Prim.Native.Nat.{ℕ, zero, suc, ◌+◌, ◌*◌, ◌/◌, ◌%◌, ◌<◌}
use mathlib.Core.Path.{◌≡◌, refl, sym, ap, ap₂, ◌∙◌}
use mathlib.Core.Bool.{Bool, true, false, not, cond, ◌&&◌, ◌||◌, true≢false, and-eq-true_iff, and-true, and-false, or-false}
use mathlib.Core.List.{List}
use native.Mathlib.Omega.{arith}
use native.Mathlib.Nat.{div-one}
use lib.Dec.{eqb}
use lib.ListN.{get_or}
use borrow.Author.Tests.{eqb-true, eqb-false, eq-eqb, ne_eqb}
use Rattle.refusals.proofs.Laws.{by_test}
use Rattle.bits.specs.Bits.{number, line_bit}
use Rattle.line.proofs.Laws.{bytes_at, bytes_at_number}
use Rattle.frames.specs.Frames.{Character, data_octet, control_character, by_flag, lane_character, is_data_octet, is, four_idles, sequence_set, quiet, starts, ends_frame}

pub and_both : (a b : Bool) → (a && b) ≡ true → (a ≡ true) × (b ≡ true)
and_both a b e = (and-eq-true_iff a b).0 e

either : {C : Type 0} (a b : Bool) → (a || b) ≡ true → (a ≡ true → C) → (b ≡ true → C) → C
either true b e f g = f refl
either false b e f g = g e

-- ---- one character

pub is_control : (x f o : ℕ) → is x (by_flag f o) ≡ true → (f ≡ 0 → ⊥) × (o ≡ x)
is_control x f o h = go (eqb f 0) refl h
  where
    go : (b : Bool) → eqb f 0 ≡ b → is x (cond b (data_octet o) (control_character o)) ≡ true → (f ≡ 0 → ⊥) × (o ≡ x)
    go true e h = absurd (true≢false (sym h))
    go false e h = (eqb-false f 0 e, eqb-true o x h)

is_data_lem : (f o : ℕ) → is_data_octet (by_flag f o) ≡ true → f ≡ 0
is_data_lem f o h = go (eqb f 0) refl h
  where
    go : (b : Bool) → eqb f 0 ≡ b → is_data_octet (cond b (data_octet o) (control_character o)) ≡ true → f ≡ 0
    go true e h = eqb-true f 0 e
    go false e h = absurd (true≢false (sym h))

-- ---- the tests by a word's control byte and its lanes

-- the four flags of a control byte
nibble : (c : ℕ) → c % 16 ≡ c / 1 % 2 + 2 * (c / 2 % 2) + 4 * (c / 4 % 2) + 8 * (c / 8 % 2)
nibble c =
    let p : c ≡ c % 2 + 2 * (c / 2) = omega arith in
    let q : c / 2 ≡ c / 2 % 2 + 2 * (c / 4) = omega arith in
    let r : c / 4 ≡ c / 4 % 2 + 2 * (c / 8) = omega arith in
    let s : c / 8 ≡ c / 8 % 2 + 2 * (c / 16) = omega arith in
    let t : c ≡ c % 16 + 16 * (c / 16) = omega arith in
    let z : c / 1 ≡ c = div-one c in
    sum c (c / 2) (c / 4) (c / 8) (c / 16) (c % 16) (c % 2) (c / 2 % 2) (c / 4 % 2) (c / 8 % 2) p q r s t
    ∙ ap (λ (n : ℕ). n % 2 + 2 * (c / 2 % 2) + 4 * (c / 4 % 2) + 8 * (c / 8 % 2)) (sym z)
  where
    sum : (c c₁ c₂ c₃ c₄ n b₀ b₁ b₂ b₃ : ℕ) → c ≡ b₀ + 2 * c₁ → c₁ ≡ b₁ + 2 * c₂ → c₂ ≡ b₂ + 2 * c₃ → c₃ ≡ b₃ + 2 * c₄ → c ≡ n + 16 * c₄
        → n ≡ b₀ + 2 * b₁ + 4 * b₂ + 8 * b₃
    sum c c₁ c₂ c₃ c₄ n b₀ b₁ b₂ b₃ p q r s t = omega arith

-- all four lanes have control characters
all_control : (w : List ℕ) → get_or w 0 0 % 16 ≡ 15
    → quiet w ≡ (eqb (get_or w 1 0) 0x07 && eqb (get_or w 2 0) 0x07 && eqb (get_or w 3 0) 0x07 && eqb (get_or w 4 0) 0x07)
unfolding quiet
all_control w h =
    let n = nibble (get_or w 0 0) in
    let a : get_or w 0 0 / 1 % 2 ≡ 1 = omega (arith, n) in
    let b : get_or w 0 0 / 2 % 2 ≡ 1 = omega (arith, n) in
    let c : get_or w 0 0 / 4 % 2 ≡ 1 = omega (arith, n) in
    let d : get_or w 0 0 / 8 % 2 ≡ 1 = omega (arith, n) in
    rw (a, b, c, d, and-false) (or-false _)

-- lane 0 alone has one
first_control : (w : List ℕ) → get_or w 0 0 % 16 ≡ 1 → quiet w ≡ eqb (get_or w 1 0) 0x9c
unfolding quiet
first_control w h =
    let n = nibble (get_or w 0 0) in
    let a : get_or w 0 0 / 1 % 2 ≡ 1 = omega (arith, n) in
    let b : get_or w 0 0 / 2 % 2 ≡ 0 = omega (arith, n) in
    let c : get_or w 0 0 / 4 % 2 ≡ 0 = omega (arith, n) in
    let d : get_or w 0 0 / 8 % 2 ≡ 0 = omega (arith, n) in
    rw (a, b, c, d, and-false, and-true, and-true, and-true)

-- the other way round
flags_set : (c : ℕ) → (c / 1 % 2 ≡ 0 → ⊥) → (c / 2 % 2 ≡ 0 → ⊥) → (c / 4 % 2 ≡ 0 → ⊥) → (c / 8 % 2 ≡ 0 → ⊥) → c % 16 ≡ 15
flags_set c p q r s =
    let n = nibble c in
    let a : c / 1 % 2 ≡ 1 = flag_set (c / 1) p in
    let b : c / 2 % 2 ≡ 1 = flag_set (c / 2) q in
    let d : c / 4 % 2 ≡ 1 = flag_set (c / 4) r in
    let e : c / 8 % 2 ≡ 1 = flag_set (c / 8) s in
    n ∙ rw (a, b, d, e)
  where
    flag_set : (c : ℕ) → (c % 2 ≡ 0 → ⊥) → c % 2 ≡ 1
    flag_set c h = omega arith

flags_first : (c : ℕ) → (c / 1 % 2 ≡ 0 → ⊥) → c / 2 % 2 ≡ 0 → c / 4 % 2 ≡ 0 → c / 8 % 2 ≡ 0 → c % 16 ≡ 1
flags_first c p b d e =
    let n = nibble c in
    let a : c / 1 % 2 ≡ 1 = omega arith in
    n ∙ rw (a, b, d, e)

-- otherwise it is not quiet
other_control : (w : List ℕ) → (get_or w 0 0 % 16 ≡ 15 → ⊥) → (get_or w 0 0 % 16 ≡ 1 → ⊥) → quiet w ≡ false
unfolding quiet
other_control w m n =
    by_test (quiet w)
    (λ q. absurd (either (four_idles w) (sequence_set w) q
    (λ e.
    let p = and_both _ _ e in
    let r = and_both _ _ p.0 in
    let s = and_both _ _ r.0 in
    let a = (is_control 0x07 (get_or w 0 0 / 1 % 2) (get_or w 1 0) s.0).0 in
    let b = (is_control 0x07 (get_or w 0 0 / 2 % 2) (get_or w 2 0) s.1).0 in
    let c = (is_control 0x07 (get_or w 0 0 / 4 % 2) (get_or w 3 0) r.1).0 in
    let d = (is_control 0x07 (get_or w 0 0 / 8 % 2) (get_or w 4 0) p.1).0 in
    m (flags_set (get_or w 0 0) a b c d))
    (λ e.
    let p = and_both _ _ e in
    let r = and_both _ _ p.0 in
    let s = and_both _ _ r.0 in
    let a = (is_control 0x9c (get_or w 0 0 / 1 % 2) (get_or w 1 0) s.0).0 in
    let b = is_data_lem (get_or w 0 0 / 2 % 2) (get_or w 2 0) s.1 in
    let c = is_data_lem (get_or w 0 0 / 4 % 2) (get_or w 3 0) r.1 in
    let d = is_data_lem (get_or w 0 0 / 8 % 2) (get_or w 4 0) p.1 in
    n (flags_first (get_or w 0 0) a b c d))))
    (λ q. q)

-- ---- the tests as the code has them

-- the four flags and the four lanes as one number
abbrev pub in_one : (flags a b c d : ℕ) → ℕ
in_one f a b c d = f % 16 + (a + b * 256 + c * 65536 + d * 16777216) * 256

-- five bytes are those of four idles exactly if their number is
four_idles_lem : (f a b c d : ℕ) → a < 256 → b < 256 → c < 256 → d < 256
    → eqb (in_one f a b c d) 0x07_0707_070f ≡ (eqb (f % 16) 15 && (eqb a 0x07 && eqb b 0x07 && eqb c 0x07 && eqb d 0x07))
four_idles_lem f a b c d la lb lc ld =
    by_test (eqb (in_one f a b c d) 0x07_0707_070f)
    (λ t.
    let e = eqb-true (in_one f a b c d) 0x07_0707_070f t in
    let l : f % 16 < 16 = omega arith in
    rw (t, eq-eqb (f % 16) 15 (omega arith), eq-eqb a 0x07 (omega arith), eq-eqb b 0x07 (omega arith), eq-eqb c 0x07 (omega arith), eq-eqb d 0x07 (omega arith)))
    (λ t. by_test (eqb (f % 16) 15 && (eqb a 0x07 && eqb b 0x07 && eqb c 0x07 && eqb d 0x07))
    (λ s.
    let o = and_both (eqb (f % 16) 15) _ s in
    let p = and_both _ (eqb d 0x07) o.1 in
    let q = and_both _ (eqb c 0x07) p.0 in
    let r = and_both (eqb a 0x07) (eqb b 0x07) q.0 in
    absurd (eqb-false (in_one f a b c d) 0x07_0707_070f t
    (omega (arith, eqb-true (f % 16) 15 o.0, eqb-true a 0x07 r.0, eqb-true b 0x07 r.1, eqb-true c 0x07 q.1, eqb-true d 0x07 p.1))))
    (λ s. t ∙ sym s))

-- and of a sequence ordered set, by the lowest two
a_set : (f a b c d : ℕ) → a < 256 → eqb (in_one f a b c d % 65536) 0x9c01 ≡ (eqb (f % 16) 1 && eqb a 0x9c)
a_set f a b c d la =
    let l : f % 16 < 16 = omega arith in
    let e : in_one f a b c d % 65536 ≡ f % 16 + a * 256 = low_two (f % 16) a b c d l la in
    ap (λ (n : ℕ). eqb n 0x9c01) e ∙ two (f % 16) l
  where
    low_two : (n a b c d : ℕ) → n < 16 → a < 256 → (n + (a + b * 256 + c * 65536 + d * 16777216) * 256) % 65536 ≡ n + a * 256
    low_two n a b c d l m =
        let q : n + (a + b * 256 + c * 65536 + d * 16777216) * 256 ≡ n + a * 256 + 65536 * (b + c * 256 + d * 65536) = omega arith in
        omega (arith, q)

    two : (n : ℕ) → n < 16 → eqb (n + a * 256) 0x9c01 ≡ (eqb n 1 && eqb a 0x9c)
    two n l =
        by_test (eqb (n + a * 256) 0x9c01)
        (λ t. let e = eqb-true (n + a * 256) 0x9c01 t in rw (t, eq-eqb n 1 (omega arith), eq-eqb a 0x9c (omega arith)))
        (λ t. by_test (eqb n 1 && eqb a 0x9c)
        (λ s. let p = and_both (eqb n 1) (eqb a 0x9c) s in absurd (eqb-false (n + a * 256) 0x9c01 t (omega (arith, eqb-true n 1 p.0, eqb-true a 0x9c p.1))))
        (λ s. t ∙ sym s))

-- a word is quiet by one of the two
quiet_is : (w : List ℕ)
    → quiet w
    ≡ (eqb (get_or w 0 0 % 16) 15 && (eqb (get_or w 1 0) 0x07 && eqb (get_or w 2 0) 0x07 && eqb (get_or w 3 0) 0x07 && eqb (get_or w 4 0) 0x07)
    || eqb (get_or w 0 0 % 16) 1 && eqb (get_or w 1 0) 0x9c)
quiet_is w =
    by_test (eqb (get_or w 0 0 % 16) 15)
    (λ t.
    let e = eqb-true (get_or w 0 0 % 16) 15 t in
    let n = ne_eqb (get_or w 0 0 % 16) 1 (λ o. omega arith) in
    all_control w e ∙ sym (rw (t, n) (or-false _)))
    (λ t. by_test (eqb (get_or w 0 0 % 16) 1)
    (λ u. first_control w (eqb-true (get_or w 0 0 % 16) 1 u) ∙ sym (rw (t, u)))
    (λ u. other_control w (eqb-false (get_or w 0 0 % 16) 15 t) (eqb-false (get_or w 0 0 % 16) 1 u) ∙ sym (rw (t, u))))

module _ (w : List ℕ) where
  -- a word as the code has it: its control byte, and its lanes
  abbrev Loaded : (control lanes word : ℕ) → Type 0
  Loaded control lanes word = (control ≡ get_or w 0 0) × (lanes ≡ number 32 (λ i. line_bit w (8 * 1 + i))) × (word ≡ control % 16 + lanes * 256)

  module _ (small : (i : ℕ) → get_or w i 0 < 256) (control lanes word : ℕ) (l : Loaded control lanes word) where
    in_one_lem : word ≡ in_one (get_or w 0 0) (get_or w 1 0) (get_or w 2 0) (get_or w 3 0) (get_or w 4 0)
    unfolding bytes_at
    in_one_lem =
        let n : bytes_at w 1 4 ≡ get_or w 1 0 + get_or w 2 0 * 256 + get_or w 3 0 * 65536 + get_or w 4 0 * 16777216 = omega arith in
        l.2 ∙ ap₂ (λ (x y : ℕ). x % 16 + y * 256) l.0 (l.1 ∙ sym (bytes_at_number w small 1 4) ∙ n)

    quiet_by : (eqb word 0x07_0707_070f || eqb (word % 65536) 0x9c01) ≡ quiet w
    quiet_by =
        ap (λ (n : ℕ). eqb n 0x07_0707_070f || eqb (n % 65536) 0x9c01) in_one_lem
        ∙ ap₂ ◌||◌ (four_idles_lem _ _ _ _ _ (small 1) (small 2) (small 3) (small 4)) (a_set _ _ _ _ _ (small 1))
        ∙ sym (quiet_is w)

    pub idles_at : word ≡ 0x07_0707_070f → eqb word 0x07_0707_070f ≡ quiet w
    idles_at e = eq-eqb word 0x07_0707_070f e ∙ ap (λ (b : Bool). b || eqb (word % 65536) 0x9c01) (sym (eq-eqb word 0x07_0707_070f e)) ∙ quiet_by

    pub set_at : (word ≡ 0x07_0707_070f → ⊥) → eqb (word % 65536) 0x9c01 ≡ quiet w
    set_at n = ap (λ (b : Bool). b || eqb (word % 65536) 0x9c01) (sym (ne_eqb word 0x07_0707_070f n)) ∙ quiet_by

  pub starts_by : (control octet : ℕ) → octet < 256 → control ≡ get_or w 0 0 → octet ≡ get_or w 1 0 → eqb (control % 2 + octet * 256) 0xfb01 ≡ starts w
  unfolding starts
  starts_by control octet l c o =
      let e : control % 2 ≡ get_or w 0 0 / 1 % 2 = omega (arith, c) in
      by_flag_lem (control % 2) octet l (omega arith)
      ∙ ap (is 0xfb) (ap₂ by_flag e o)
    where
      by_flag_lem : (f o : ℕ) → o < 256 → f < 2 → eqb (f + o * 256) 0xfb01 ≡ is 0xfb (by_flag f o)
      by_flag_lem zero o l m =
          ne_eqb (0 + o * 256) 0xfb01 (λ e. omega arith)
      by_flag_lem (suc zero) o l m =
          by_test (eqb o 0xfb)
          (λ t. let e = eqb-true o 0xfb t in rw t (eq-eqb (1 + o * 256) 0xfb01 (omega arith)))
          (λ t. rw t (ne_eqb (1 + o * 256) 0xfb01 (λ e. eqb-false o 0xfb t (omega arith))))
      by_flag_lem (suc (suc f)) o l m = absurd (omega arith)

-- ---- a frame that is open at a word

-- a character is one control character, and each but an error character ends a frame
one_control : (c : Character) (x y : ℕ) → is x c ≡ true → is y c ≡ true → x ≡ y
one_control (data_octet o) x y p q = absurd (true≢false (sym p))
one_control (control_character c) x y p q = sym (eqb-true c x p) ∙ eqb-true c y q

control_ends : (c : Character) (x : ℕ) → (x ≡ 0xfe → ⊥) → is x c ≡ true → ends_frame c ≡ true
control_ends (data_octet o) x n p = absurd (true≢false (sym p))
control_ends (control_character c) x n p = ap not (ne_eqb c 0xfe (λ e. n (sym (eqb-true c x p) ∙ e)))

-- what lane 0 of a quiet word has
quiet_lane : {C : Type 0} (w : List ℕ) → quiet w ≡ true → (is 0x07 (lane_character w 0) ≡ true → C) → (is 0x9c (lane_character w 0) ≡ true → C) → C
unfolding quiet
quiet_lane w q f g =
    either (four_idles w) (sequence_set w) q
    (λ e. f (and_both _ _ (and_both _ _ (and_both _ _ e).0).0).0)
    (λ e. g (and_both _ _ (and_both _ _ (and_both _ _ e).0).0).0)

-- a quiet word ends a frame with its first character
pub quiet_ends : (w : List ℕ) → quiet w ≡ true → ends_frame (lane_character w 0) ≡ true
quiet_ends w q =
    quiet_lane w q (control_ends (lane_character w 0) 0x07 (λ e. omega arith)) (control_ends (lane_character w 0) 0x9c (λ e. omega arith))

-- a word with Start in lane 0 is not quiet
pub start_loud : (w : List ℕ) → starts w ≡ true → quiet w ≡ false
unfolding starts
start_loud w s =
    by_test (quiet w)
    (λ q. absurd (quiet_lane w q
    (λ i. let e = one_control (lane_character w 0) 0x07 0xfb i s in omega arith)
    (λ i. let e = one_control (lane_character w 0) 0x9c 0xfb i s in omega arith)))
    (λ q. q)
