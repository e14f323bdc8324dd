-- Two control blocks that are near, neither of kind E: what the least distances of the types and of the codes say of them.
use mathlib.Core.Path.{◌≡◌, refl, ◌∙◌, ap, ap₂, subst, sym}
use mathlib.Core.Bool.{Bool, true, false, not}
use mathlib.Core.List.{List, [], ◌∷◌}
use Prim.Native.Nat.{ℕ, zero, suc, ◌+◌, ◌-◌, ◌/◌, ◌%◌, ◌^◌, ◌<◌, ◌≤◌}
use native.Mathlib.Nat.{mod-lt, not-le_of_lt, div-one}
use native.Mathlib.Omega.{arith}
use lib.Dec.{T, lit<, lit≤, eqb, ltb, leb, leb→le, ltb→lt, eqb→eq}
use lib.ListN.{get_or}
use lib.Pow.{pow_pos}
use borrow.Author.Tests.{eqb-true, eqb-false}
use Rattle.bits.specs.Bits.{bit, total}
use Rattle.bits.proofs.Laws.{bit_mod, bit_shr, total_add, total_same}
use Rattle.block.specs.declared.Edition.{Edition}
use Rattle.block.specs.declared.Edition.TheVariants.{Old, New}
use Rattle.block.specs.declared.Kind.TheVariants.{E}
use Rattle.block.specs.Block.{Slot, Control, Calm, Data, Set, Start, Terminate, Format, no_format, control_blocks, kind_for, octet_of, control_bit, flag_at, flag_of, lane_of, by_type, format_of, vector_of, kind_by, kind_of, decoded}
use Rattle.block.specs.Rows.{width, field_at}
use Rattle.block.specs.Distance.{differing, Near}
use Rattle.bits.proofs.Tests.{eight, unless, unless_right, not_leb, all, holds, each, at}
use Rattle.block.proofs.Formats.{flag_at_lem, sound_has, sound_width, sound_place, found, blind}
use Rattle.block.proofs.Types.{types_far, has_entry}
use Rattle.block.proofs.Sending.{ten}
use Rattle.block.proofs.Reading.{low_kind, decoded_byte, good_kind, good_vector, good_sound, vector_flag, vector_lane, place_of, read_at_lem, data_bit}

-- ---- the least distances, each a test over its whole table: two that are not the same differ in more than k bits

far_codes : Edition → ℕ → Slot → ℕ → ℕ → Bool
far_codes ed k s c e = unless (leb 256 (octet_of ed s e)) (λ u. unless (eqb c e) (λ w. ltb k (differing 0 (width s) c e)))

far_from : Edition → ℕ → Slot → ℕ → Bool
far_from ed k s c = unless (leb 256 (octet_of ed s c)) (λ u. each (far_codes ed k s c) 0 (2 ^ width s))

codes_apart : Edition → ℕ → Slot → Bool
codes_apart ed k s = each (far_from ed k s) 0 (2 ^ width s)

-- of the control characters, those of type 1e and the ordered sets
pub codes_far : Edition → ℕ → List Bool
codes_far ed k = codes_apart ed k Control ∷ codes_apart ed k Calm ∷ codes_apart ed k Set ∷ []

-- and of the types, by the rule of their table
pub apart : Edition → ℕ → List Bool
apart ed k = leb k 3 ∷ codes_far ed k

-- Of the tables of Clause 49 any two differ in at least four bits, with the low power idle character in at least two.
pub four_apart : T (all (apart Old 3))
unfolding apart codes_far codes_apart far_from far_codes differing total bit
four_apart = tt

pub two_apart : T (all (apart New 1))
unfolding apart codes_far codes_apart far_from far_codes differing total bit
two_apart = tt

-- These are the least distances: no more can be asked of the codes.
pub no_further : T (not (all (codes_far Old 4))) × T (not (all (codes_far New 2)))
unfolding codes_far codes_apart far_from far_codes differing total bit
no_further = (tt, tt)

-- a code that type 1e takes is a control character's, and is not 1e
calm_code : Edition → ℕ → Bool
calm_code ed c = unless (leb 256 (octet_of ed Calm c)) (λ u. all (ltb (octet_of ed Control c) 256 ∷ not (eqb c 0x1e) ∷ []))

calm_codes : (ed : Edition) → T (each (calm_code ed) 0 128)
unfolding calm_code
calm_codes Old = tt
calm_codes New = tt

error_code_lem : (ed : Edition) → octet_of ed Control 0x1e < 256
error_code_lem Old = lit< tt
error_code_lem New = lit< tt

-- ---- eight control characters

flags_on : (v : List ℕ) → get_or v 0 0 ≡ 15 → get_or v 5 0 ≡ 15 → (p : ℕ) → p < 8 → flag_of v p ≡ 1
flags_on v a b =
    eight (λ (p : ℕ). flag_of v p ≡ 1)
    (omega arith) (omega arith) (omega arith) (omega arith) (omega arith) (omega arith) (omega arith) (omega arith)

-- ---- bits that differ, in a field and in a window of eight

total_below : (f g : ℕ → ℕ) (n : ℕ) → ((i : ℕ) → i < n → f i ≡ g i) → total f n ≡ total g n
unfolding total
total_below f g zero h = refl
total_below f g (suc n) h = ap₂ (λ (u v : ℕ). u + v) (total_below f g n (λ i l. h i (omega arith))) (h n (omega arith))

-- the field of w bits from a
field_differing : (a w x y : ℕ) → differing 0 w (x / 2 ^ a % 2 ^ w) (y / 2 ^ a % 2 ^ w) ≡ differing a w x y
unfolding differing
field_differing a w x y = total_below _ _ w (λ i l. ap₂ (λ (u v : ℕ). (u + v) % 2) (bit_in x i l) (bit_in y i l))
  where
    bit_in : (z i : ℕ) → i < w → bit (z / 2 ^ a % 2 ^ w) (0 + i) ≡ bit z (a + i)
    bit_in z i l =
        let e : 0 + i ≡ i = omega arith in
        ap (bit (z / 2 ^ a % 2 ^ w)) e ∙ bit_mod (z / 2 ^ a) w i l ∙ bit_shr z a i

-- inside the window of eight bits that ends with it
window : (k a w m x y : ℕ) → m + w ≡ 8 → m ≤ a → a + w ≤ 64 → Near k x y → differing a w x y ≤ k
unfolding differing
window k a w m x y e h l n =
    let g : ℕ → ℕ = λ i. (bit x i + bit y i) % 2 in
    let whole : total (λ i. g (a - m + i)) 8 ≤ k = n (a - m) (omega arith) in
    let cut : total (λ i. g (a - m + i)) (m + w) ≡ total (λ i. g (a - m + i)) m + total (λ i. g (a - m + (m + i))) w = total_add (λ i. g (a - m + i)) m w in
    let moved : total (λ i. g (a - m + (m + i))) w ≡ total (λ i. g (a + i)) w = total_same (λ i. g (a - m + (m + i))) (λ i. g (a + i)) w (λ i. ap g (slide a m i h)) in
    let size : total (λ i. g (a - m + i)) (m + w) ≡ total (λ i. g (a - m + i)) 8 = ap (total (λ i. g (a - m + i))) e in
    omega arith
  where
    slide : (a m i : ℕ) → m ≤ a → a - m + (m + i) ≡ a + i
    slide a m i h = omega arith

module _ (ed : Edition) where
  -- ---- what the tests say of two types and of two codes

  types_apart : (k y z : ℕ) → T (all (apart ed k)) → y < 256 → z < 256 → (by_type control_blocks y ≡ no_format → ⊥) → (by_type control_blocks z ≡ no_format → ⊥)
      → (y ≡ z → ⊥) → k < differing 0 8 y z
  unfolding apart
  types_apart k y z t hy hz ny nz n =
      omega (arith, leb→le k 3 (holds (apart ed k) 0 t), types_far y z hy hz (has_entry y hy ny) (has_entry z hz nz) n)

  codes_apart_lem : (k : ℕ) (s : Slot) (c e : ℕ) → T (codes_apart ed k s) → c < 2 ^ width s → e < 2 ^ width s → octet_of ed s c < 256 → octet_of ed s e < 256 → (c ≡ e → ⊥)
      → k < differing 0 (width s) c e
  unfolding codes_apart far_from far_codes
  codes_apart_lem k s c e t hc he rc re n =
      let a = unless_right (leb 256 (octet_of ed s c)) (λ u. each (far_codes ed k s c) 0 (2 ^ width s)) (at (far_from ed k s) (2 ^ width s) t c hc) (not_leb rc) in
      let b = unless_right (leb 256 (octet_of ed s e)) (λ u. unless (eqb c e) (λ w. ltb k (differing 0 (width s) c e))) (at (far_codes ed k s c) (2 ^ width s) a e he) (not_leb re) in
      ltb→lt k (differing 0 (width s) c e) (unless_right (eqb c e) (λ w. ltb k (differing 0 (width s) c e)) b (λ z. n (eqb→eq c e z)))

  -- ---- a control character of two blocks that are near

  module _ (k x y : ℕ) (t : T (all (apart ed k))) (n : Near k x y) where
    same_code : (s : Slot) (a m : ℕ) → T (codes_apart ed k s) → m + width s ≡ 8 → m ≤ a → a + width s ≤ 64
        → octet_of ed s (x / 2 ^ a % 2 ^ width s) < 256 → octet_of ed s (y / 2 ^ a % 2 ^ width s) < 256
        → octet_of ed s (x / 2 ^ a % 2 ^ width s) ≡ octet_of ed s (y / 2 ^ a % 2 ^ width s)
    same_code s a m u e h l hx hy = go (eqb c d) refl
      where
        c : ℕ
        c = x / 2 ^ a % 2 ^ width s

        d : ℕ
        d = y / 2 ^ a % 2 ^ width s

        go : (b : Bool) → eqb c d ≡ b → octet_of ed s c ≡ octet_of ed s d
        go true q = ap (octet_of ed s) (eqb-true c d q)
        go false q =
            let i = codes_apart_lem k s c d u (mod-lt (x / 2 ^ a) (pow_pos (width s))) (mod-lt (y / 2 ^ a) (pow_pos (width s))) hx hy (eqb-false c d q) in
            let j = window k a (width s) m x y e h l n in
            absurd (not-le_of_lt i (subst (λ (z : ℕ). z ≤ k) (sym (field_differing a (width s) x y)) j))

    of_width : (s : Slot) (a m w : ℕ) → w ≡ width s → T (codes_apart ed k s) → m + width s ≡ 8 → m ≤ a → a + width s ≤ 64
        → octet_of ed s (x / 2 ^ a % 2 ^ w) < 256 → octet_of ed s (y / 2 ^ a % 2 ^ w) < 256
        → octet_of ed s (x / 2 ^ a % 2 ^ w) ≡ octet_of ed s (y / 2 ^ a % 2 ^ w)
    of_width s a m w e u q h l =
        subst (λ (i : ℕ). octet_of ed s (x / 2 ^ a % 2 ^ i) < 256 → octet_of ed s (y / 2 ^ a % 2 ^ i) < 256 → octet_of ed s (x / 2 ^ a % 2 ^ i) ≡ octet_of ed s (y / 2 ^ a % 2 ^ i))
        (sym e) (same_code s a m u q h l)

    -- every slot that is a control character; the field of one that looks at its bits is as wide as its codes
    same_octet : (s : Slot) (a w : ℕ) → control_bit s ≡ 1 → ((T (blind s) → ⊥) → w ≡ width s) → 8 ≤ a → a + width s ≤ 64
        → octet_of ed s (x / 2 ^ a % 2 ^ w) < 256 → octet_of ed s (y / 2 ^ a % 2 ^ w) < 256
        → octet_of ed s (x / 2 ^ a % 2 ^ w) ≡ octet_of ed s (y / 2 ^ a % 2 ^ w)
    unfolding apart codes_far
    same_octet Data a w b e h l hx hy = absurd (let z : ◌≡◌ {A = ℕ} 0 1 = b in omega arith)
    same_octet Start a w b e h l hx hy = refl
    same_octet Terminate a w b e h l hx hy = refl
    same_octet Control a w b e h l hx hy = of_width Control a 1 w (e (λ z. z)) (holds (apart ed k) 1 t) refl (omega arith) l hx hy
    same_octet Calm a w b e h l hx hy = of_width Calm a 1 w (e (λ z. z)) (holds (apart ed k) 2 t) refl (omega arith) l hx hy
    same_octet Set a w b e h l hx hy = of_width Set a 4 w (e (λ z. z)) (holds (apart ed k) 3 t) refl (omega arith) l hx hy

  -- ---- the law

  known : (x : ℕ) → (kind_of ed 1 x ≡ E → ⊥) → by_type control_blocks (x % 2 ^ 8) ≡ no_format → ⊥
  unfolding kind_of
  known x good e = good (ap (λ (f : Format). kind_by ed f x) e)

  control_lead : (x : ℕ) → (kind_of ed 1 x ≡ E → ⊥) → (format_of 1 x).lead ≡ 8
  control_lead x good = eqb→eq (format_of 1 x).lead 8 (found (λ f. eqb f.lead 8) control_blocks (x % 2 ^ 8) tt (known x good))

  same_type : (k x y : ℕ) → T (all (apart ed k)) → Near k x y → (by_type control_blocks (x % 2 ^ 8) ≡ no_format → ⊥)
      → (by_type control_blocks (y % 2 ^ 8) ≡ no_format → ⊥) → x % 2 ^ 8 ≡ y % 2 ^ 8
  same_type k x y t n nx ny = go (eqb (x % 2 ^ 8) (y % 2 ^ 8)) refl
    where
      close : differing 0 8 (x % 2 ^ 8) (y % 2 ^ 8) ≤ k
      close =
          subst (λ (z : ℕ). z ≤ k) (sym (field_differing 0 8 x y) ∙ ap₂ (λ (i j : ℕ). differing 0 8 (i % 2 ^ 8) (j % 2 ^ 8)) (div-one x) (div-one y)) (n 0 (omega arith))

      go : (b : Bool) → eqb (x % 2 ^ 8) (y % 2 ^ 8) ≡ b → x % 2 ^ 8 ≡ y % 2 ^ 8
      go true q = eqb-true (x % 2 ^ 8) (y % 2 ^ 8) q
      go false q = absurd (not-le_of_lt (types_apart k (x % 2 ^ 8) (y % 2 ^ 8) t (mod-lt x (lit< tt)) (mod-lt y (lit< tt)) nx ny (eqb-false (x % 2 ^ 8) (y % 2 ^ 8) q)) close)

  -- what two control blocks have in common: the type, the kind, the control bytes, and each control character, an ordered set's among them
  pub record Alike (x y : ℕ) : Type 0 where
    pub same_types : x % 2 ^ 8 ≡ y % 2 ^ 8
    pub same_kinds : kind_of ed 1 x ≡ kind_of ed 1 y
    pub same_lows : get_or (decoded ed 1 x) 0 0 ≡ get_or (decoded ed 1 y) 0 0
    pub same_highs : get_or (decoded ed 1 x) 5 0 ≡ get_or (decoded ed 1 y) 5 0
    pub same_controls : (p : ℕ) → p < 8 → flag_of (decoded ed 1 x) p ≡ 1 → lane_of (decoded ed 1 x) p ≡ lane_of (decoded ed 1 y) p

  -- Two control blocks, neither of kind E, of which at most k of any eight payload bits in a row differ, are alike, where the types and the
  -- codes are more than k bits apart.
  module _ (k x y : ℕ) (t : T (all (apart ed k))) (n : Near k x y) (gx : kind_of ed 1 x ≡ E → ⊥) (gy : kind_of ed 1 y ≡ E → ⊥) where
    one_format : format_of 1 y ≡ format_of 1 x
    one_format = ap (by_type control_blocks) (sym (same_type k x y t n (known x gx) (known y gy)))

    vector_y : decoded ed 1 y ≡ vector_of ed (format_of 1 x) y
    vector_y = good_vector ed 1 y gy ∙ ap (λ (g : Format). vector_of ed g y) one_format

    lane : (z p : ℕ) → p < 8 → decoded ed 1 z ≡ vector_of ed (format_of 1 x) z
        → lane_of (decoded ed 1 z) p ≡ octet_of ed (field_at (format_of 1 x).fields p).slot (z / 2 ^ place_of (format_of 1 x) p % 2 ^ (field_at (format_of 1 x).fields p).bits)
    lane z p h e = ap (λ (v : List ℕ). lane_of v p) e ∙ vector_lane ed (format_of 1 x) z p h ∙ read_at_lem ed (format_of 1 x) z p (good_sound ed 1 x gx) h

    control_slot : (p : ℕ) → p < 8 → flag_of (decoded ed 1 x) p ≡ 1 → control_bit (field_at (format_of 1 x).fields p).slot ≡ 1
    control_slot p h e =
        sym (flag_at_lem (format_of 1 x).fields p (sound_has (format_of 1 x) (good_sound ed 1 x gx) p h))
        ∙ sym (vector_flag ed (format_of 1 x) x p h)
        ∙ ap (λ (v : List ℕ). flag_of v p) (sym (good_vector ed 1 x gx))
        ∙ e

    same_lane : (p : ℕ) → p < 8 → flag_of (decoded ed 1 x) p ≡ 1 → lane_of (decoded ed 1 x) p ≡ lane_of (decoded ed 1 y) p
    same_lane p h e =
        let lx = lane x p h (good_vector ed 1 x gx) in
        let ly = lane y p h vector_y in
        let far : 8 ≤ place_of (format_of 1 x) p = omega (arith, control_lead x gx) in
        lx
        ∙ same_octet k x y t n (field_at (format_of 1 x).fields p).slot (place_of (format_of 1 x) p) (field_at (format_of 1 x).fields p).bits
        (control_slot p h e) (sound_width (format_of 1 x) (good_sound ed 1 x gx) p h) far (sound_place (format_of 1 x) (good_sound ed 1 x gx) p h)
        (subst (λ (z : ℕ). z < 256) lx (decoded_byte ed 1 x (p + p / 4 + 1)))
        (subst (λ (z : ℕ). z < 256) ly (decoded_byte ed 1 y (p + p / 4 + 1)))
        ∙ sym ly

    same_low : get_or (decoded ed 1 x) 0 0 ≡ get_or (decoded ed 1 y) 0 0
    same_low = ap (λ (v : List ℕ). get_or v 0 0) (good_vector ed 1 x gx) ∙ sym (ap (λ (v : List ℕ). get_or v 0 0) vector_y)

    same_high : get_or (decoded ed 1 x) 5 0 ≡ get_or (decoded ed 1 y) 5 0
    same_high = ap (λ (v : List ℕ). get_or v 5 0) (good_vector ed 1 x gx) ∙ sym (ap (λ (v : List ℕ). get_or v 5 0) vector_y)

    -- eight control characters come back as they were sent
    as_sent : get_or (decoded ed 1 x) 0 0 ≡ 15 → get_or (decoded ed 1 x) 5 0 ≡ 15 → decoded ed 1 x ≡ decoded ed 1 y
    as_sent a b =
        let same : (p : ℕ) → p < 8 → lane_of (vector_of ed (format_of 1 x) x) p ≡ lane_of (vector_of ed (format_of 1 x) y) p =
        λ p h. ap (λ (v : List ℕ). lane_of v p) (sym (good_vector ed 1 x gx)) ∙ same_lane p h (flags_on (decoded ed 1 x) a b p h) ∙ ap (λ (v : List ℕ). lane_of v p) vector_y in
        good_vector ed 1 x gx
        ∙ ten refl (same 0 (lit< tt)) (same 1 (lit< tt)) (same 2 (lit< tt)) (same 3 (lit< tt)) refl (same 4 (lit< tt)) (same 5 (lit< tt)) (same 6 (lit< tt)) (same 7 (lit< tt))
        ∙ sym vector_y

    pub near_blocks : Alike x y
    near_blocks =
        record {
          same_types = same_type k x y t n (known x gx) (known y gy);
          same_kinds =
              good_kind ed 1 x gx ∙ low_kind (format_of 1 x) (decoded ed 1 x) (decoded ed 1 y)
              (λ a. as_sent (ap (λ (v : List ℕ). get_or v 0 0) a) (ap (λ (v : List ℕ). get_or v 5 0) a))
              (λ a. as_sent (same_low ∙ ap (λ (v : List ℕ). get_or v 0 0) a) (same_high ∙ ap (λ (v : List ℕ). get_or v 5 0) a)) ∙ ap
              (λ (g : Format). kind_for g (decoded ed 1 y)) (sym one_format) ∙ sym (good_kind ed 1 y gy);
          same_lows = same_low;
          same_highs = same_high;
          same_controls = same_lane;
        }

  -- Of two blocks with one header and one type, neither of kind E: bit j of a data character is the payload's bit at the same place in both. So
  -- the decoded bits differ exactly where the payload's do.
  pub data_bits_at : (h x y p : ℕ) → (kind_of ed h x ≡ E → ⊥) → (kind_of ed h y ≡ E → ⊥) → format_of h x ≡ format_of h y → p < 8 → flag_of (decoded ed h x) p ≡ 0
      → (j : ℕ) → j < 8
      → (bit (lane_of (decoded ed h x) p) j ≡ bit x (place_of (format_of h x) p + j)) × (bit (lane_of (decoded ed h y) p) j ≡ bit y (place_of (format_of h x) p + j))
  data_bits_at h x y p gx gy e hp z j l =
      let zy : flag_of (decoded ed h y) p ≡ 0 =
      ap (λ (v : List ℕ). flag_of v p) (good_vector ed h y gy) ∙ vector_flag ed (format_of h y) y p hp ∙ ap (λ (g : Format). flag_at g.fields p) (sym e)
      ∙ sym (vector_flag ed (format_of h x) x p hp) ∙ ap (λ (v : List ℕ). flag_of v p) (sym (good_vector ed h x gx)) ∙ z in
      (data_bit ed h x p gx hp z j l, data_bit ed h y p gy hp zy j l ∙ ap (λ (g : Format). bit y (place_of g p + j)) (sym e))

  -- ---- near a block of type 1e with a code 1e

  -- A block that is near one of type 1e whose first code is 1e, as that of state E is, is of kind E.
  pub near_error : (k x y : ℕ) → T (all (apart ed k)) → Near k x y → x % 2 ^ 8 ≡ 0x1e → x / 2 ^ 8 % 2 ^ 7 ≡ 0x1e → (kind_of ed 1 y ≡ E → ⊥) → ⊥
  unfolding apart codes_far calm_code
  near_error k x y t n tx cx gy =
      not-le_of_lt
      (codes_apart_lem k Control 0x1e c (holds (apart ed k) 1 t) (lit< tt) (mod-lt (y / 2 ^ 8) (lit< tt)) (error_code_lem ed) (ltb→lt (octet_of ed Control c) 256 (holds tests 0 fine)) (λ e. other e))
      (subst (λ (z : ℕ). z ≤ k) (sym (field_differing 8 7 x y) ∙ ap (λ (z : ℕ). differing 0 7 z c) cx) (window k 8 7 1 x y refl (lit≤ tt) (lit≤ tt) n))
    where
      c : ℕ
      c = y / 2 ^ 8 % 2 ^ 7

      tests : List Bool
      tests = ltb (octet_of ed Control c) 256 ∷ not (eqb c 0x1e) ∷ []

      type_known : by_type control_blocks (x % 2 ^ 8) ≡ no_format → ⊥
      type_known e = subst (λ (f : Format). T (ltb 0 f.type)) (ap (by_type control_blocks) (sym tx) ∙ e) tt

      one_type : by_type control_blocks (y % 2 ^ 8) ≡ by_type control_blocks 0x1e
      one_type = ap (by_type control_blocks) (sym (same_type k x y t n type_known (known y gy)) ∙ tx)

      calm : octet_of ed Calm c < 256
      calm =
          subst (λ (z : ℕ). z < 256) (ap (λ (v : List ℕ). get_or v 1 0) (good_vector ed 1 y gy) ∙ ap (λ (f : Format). get_or (vector_of ed f y) 1 0) one_type)
          (decoded_byte ed 1 y 1)

      fine : T (all tests)
      fine = unless_right (leb 256 (octet_of ed Calm c)) (λ u. all tests) (at (calm_code ed) 128 (calm_codes ed) c (mod-lt (y / 2 ^ 8) (lit< tt))) (not_leb calm)

      other : 0x1e ≡ c → ⊥
      other e = subst (λ (z : ℕ). T (not (eqb z 0x1e))) (sym e) (holds tests 1 fine)
