-- Laws of a block that was received: its kind, the ten bytes of its vector, and where its data bits stand.
use mathlib.Core.Path.{◌≡◌, refl, ◌∙◌, ap, ap₂, subst, sym}
use mathlib.Core.Bool.{Bool, true, false, cond, ◌&&◌}
use mathlib.Core.List.{List, [], ◌∷◌}
use Prim.Native.Nat.{ℕ, zero, suc, ◌+◌, ◌/◌, ◌%◌, ◌^◌, ◌<◌, ◌≤◌}
use native.Mathlib.Nat.{mod-lt}
use native.Mathlib.Omega.{arith}
use lib.Dec.{T, lit<, eqb, ltb, ltb→lt, eqb→eq}
use lib.ListN.{length, get_or}
use lib.Pow.{shr-shr}
use borrow.Author.Tests.{lt-ltb}
use Rattle.bits.specs.Bits.{bit}
use Rattle.bits.proofs.Laws.{bit_mod, bit_shr}
use Rattle.block.specs.declared.Edition.{Edition}
use Rattle.block.specs.declared.Kind.{Kind}
use Rattle.block.specs.declared.Kind.TheVariants.{E, LI}
use Rattle.block.specs.Block.{Slot, Control, Calm, Data, Set, Start, Terminate, Format, data_block, low_power_vector, same, kind_for, octet_of, control_bit, octet_at, flag_at, flag_of, lane_of, format_of, vector_of, valid, all_below, error_vector, kind_by, decoded_by, kind_of, decoded, place_at}
use Rattle.block.specs.Rows.{width, field_at, SameFlags}
use Rattle.refusals.proofs.Laws.{by_test}
use Rattle.bits.proofs.Tests.{both_left, both_right, all, eight, is_true}
use Rattle.block.proofs.Formats.{octet_at_lem, flag_at_lem, flag_le, blind, sound, all_sound, sound_has, sound_width, sound_place, of_format}

-- ---- numbers below a bound

abbrev pub Below : ℕ → List ℕ → Type 0
Below m [] = Unit
Below m (a ∷ l) = (a < m) × Below m l

pub below_all : (m : ℕ) (l : List ℕ) → Below m l → all_below m l ≡ true
below_all m [] w = refl
below_all m (a ∷ l) w = ap (λ (b : Bool). b && all_below m l) (lt-ltb a m w.0) ∙ below_all m l w.1

pub all_below_lem : (m : ℕ) (l : List ℕ) → T (all_below m l) → Below m l
all_below_lem m [] t = tt
all_below_lem m (a ∷ l) t = (ltb→lt a m (both_left (ltb a m) (all_below m l) t), all_below_lem m l (both_right (ltb a m) (all_below m l) t))

pub not_below : (m : ℕ) (l : List ℕ) → (Below m l → ⊥) → all_below m l ≡ false
not_below m l h = by_test (all_below m l) (λ e. absurd (h (all_below_lem m l (is_true e)))) (λ e. e)

pub below_at : (m : ℕ) (l : List ℕ) → 0 < m → Below m l → (n : ℕ) → get_or l n 0 < m
below_at m [] z w n = z
below_at m (a ∷ l) z w zero = w.0
below_at m (a ∷ l) z w (suc n) = below_at m l z w.1 n

-- ---- the kind of a valid vector: LI, or that of its format

pub kind_for_lem : (P : Kind → Type 0) (f : Format) (v : List ℕ) → P LI → P f.kind → P (kind_for f v)
unfolding kind_for
kind_for_lem P f v l k =
    by_test (eqb f.type 0x1e && same v low_power_vector) (λ e. subst (λ (b : Bool). P (cond b LI f.kind)) (sym e) l)
    (λ e. subst (λ (b : Bool). P (cond b LI f.kind)) (sym e) k)

pub same_is : (v w : List ℕ) → T (same v w) → v ≡ w
same_is [] [] t = refl
same_is [] (b ∷ w) t = absurd t
same_is (a ∷ v) [] t = absurd t
same_is (a ∷ v) (b ∷ w) t = ap₂ (λ (c : ℕ) (l : List ℕ). c ∷ l) (eqb→eq a b (both_left (eqb a b) (same v w) t)) (same_is v w (both_right (eqb a b) (same v w) t))

-- two vectors of one format that are the same where either is low power idle
pub low_kind : (f : Format) (v w : List ℕ) → (v ≡ low_power_vector → v ≡ w) → (w ≡ low_power_vector → v ≡ w) → kind_for f v ≡ kind_for f w
unfolding kind_for
low_kind f v w a b =
    ap (λ (s : Bool). cond (eqb f.type 0x1e && s) LI f.kind)
    (by_test (same v low_power_vector)
    (λ e. ap (λ (u : List ℕ). same u low_power_vector) (a (same_is v low_power_vector (is_true e))))
    (λ e. by_test (same w low_power_vector) (λ d. ap (λ (u : List ℕ). same u low_power_vector) (b (same_is w low_power_vector (is_true d)))) (λ d. e ∙ sym d)))

-- a vector that is not low power idle has the kind of its format
pub plain_kind : (f : Format) (v : List ℕ) → (v ≡ low_power_vector → ⊥) → kind_for f v ≡ f.kind
unfolding kind_for
plain_kind f v n =
    by_test (eqb f.type 0x1e && same v low_power_vector)
    (λ e. absurd (n (same_is v low_power_vector (both_right (eqb f.type 0x1e) (same v low_power_vector) (is_true e))))) (λ e. rw e)

-- ---- the control bits, places and slots of a format

-- the control bits, by their bytes
pub flags_same : (v : List ℕ) (f : Format) → SameFlags v f → (p : ℕ) → p < 8 → flag_of v p ≡ flag_at f.fields p
flags_same v f e =
    eight (λ (p : ℕ). flag_of v p ≡ flag_at f.fields p)
    (omega (arith, low)) (omega (arith, low)) (omega (arith, low)) (omega (arith, low)) (omega (arith, high)) (omega (arith, high)) (omega (arith, high)) (omega (arith, high))
  where
    low : (flag_at f.fields 0 ≤ 1) × (flag_at f.fields 1 ≤ 1) × (flag_at f.fields 2 ≤ 1) × (flag_at f.fields 3 ≤ 1)
    low = (flag_le f.fields 0, flag_le f.fields 1, flag_le f.fields 2, flag_le f.fields 3)

    high : (flag_at f.fields 4 ≤ 1) × (flag_at f.fields 5 ≤ 1) × (flag_at f.fields 6 ≤ 1) × (flag_at f.fields 7 ≤ 1)
    high = (flag_le f.fields 4, flag_le f.fields 5, flag_le f.fields 6, flag_le f.fields 7)

-- the payload bit at which the field of character p begins
abbrev pub place_of : Format → ℕ → ℕ
place_of f p = f.lead + place_at f.fields p

data_slot : (s : Slot) → control_bit s ≡ 0 → s ≡ Data
data_slot Data e = refl
data_slot Control e = absurd (let z : ◌≡◌ {A = ℕ} 1 0 = e in omega arith)
data_slot Calm e = absurd (let z : ◌≡◌ {A = ℕ} 1 0 = e in omega arith)
data_slot Set e = absurd (let z : ◌≡◌ {A = ℕ} 1 0 = e in omega arith)
data_slot Start e = absurd (let z : ◌≡◌ {A = ℕ} 1 0 = e in omega arith)
data_slot Terminate e = absurd (let z : ◌≡◌ {A = ℕ} 1 0 = e in omega arith)

module _ (ed : Edition) where
  -- ---- a valid block, and one that is not

  pub decided : (P : Kind → List ℕ → Type 0) (f : Format) (x : ℕ) → (valid ed f x ≡ true → P (kind_for f (vector_of ed f x)) (vector_of ed f x)) → (valid ed f x ≡ false → P E error_vector)
      → P (kind_by ed f x) (decoded_by ed f x)
  decided P f x g h = go (valid ed f x) refl
    where
      go : (b : Bool) → valid ed f x ≡ b → P (cond b (kind_for f (vector_of ed f x)) E) (cond b (vector_of ed f x) error_vector)
      go true e = g e
      go false e = h e

  module _ (f : Format) (x : ℕ) where
    pub when_valid : Below 256 (vector_of ed f x) → (kind_by ed f x ≡ kind_for f (vector_of ed f x)) × (decoded_by ed f x ≡ vector_of ed f x)
    when_valid w =
        let e : valid ed f x ≡ true = below_all 256 (vector_of ed f x) w in
        (ap (λ (b : Bool). cond b (kind_for f (vector_of ed f x)) E) e, ap (λ (b : Bool). cond b (vector_of ed f x) error_vector) e)

    pub when_not : (Below 256 (vector_of ed f x) → ⊥) → (kind_by ed f x ≡ E) × (decoded_by ed f x ≡ error_vector)
    when_not w =
        let e : valid ed f x ≡ false = not_below 256 (vector_of ed f x) w in
        (ap (λ (b : Bool). cond b (kind_for f (vector_of ed f x)) E) e, ap (λ (b : Bool). cond b (vector_of ed f x) error_vector) e)

  module _ (h x : ℕ) where
    -- a decoded vector has ten bytes
    pub decoded_length : length (decoded ed h x) ≡ 10
    unfolding decoded
    decoded_length = decided (λ k v. length v ≡ 10) (format_of h x) x (λ e. refl) (λ e. refl)

    pub decoded_below : Below 256 (decoded ed h x)
    unfolding decoded
    decoded_below =
        decided (λ k v. Below 256 v) (format_of h x) x (λ e. all_below_lem 256 (vector_of ed (format_of h x) x) (is_true e)) (λ e. all_below_lem 256 error_vector tt)

    pub decoded_byte : (n : ℕ) → get_or (decoded ed h x) n 0 < 256
    decoded_byte = below_at 256 (decoded ed h x) (lit< tt) decoded_below

  -- eight data octets are bytes
  pub data_below : (x : ℕ) → Below 256 (vector_of ed data_block x)
  data_below x =
      (lit< tt, (mod-lt _ (lit< tt), (mod-lt _ (lit< tt), (mod-lt _ (lit< tt), (mod-lt _ (lit< tt), (lit< tt, (mod-lt _ (lit< tt), (mod-lt _ (lit< tt), (mod-lt _ (lit< tt), (mod-lt _ (lit< tt), tt))))))))))

  -- ---- a block that is not of kind E

  module _ (h x : ℕ) (good : kind_of ed h x ≡ E → ⊥) where
    pub is_valid : valid ed (format_of h x) x ≡ true
    unfolding kind_of
    is_valid = by_test (valid ed (format_of h x) x) (λ e. e) (λ e. absurd (good (ap (λ (b : Bool). cond b (kind_for (format_of h x) (vector_of ed (format_of h x) x)) E) e)))

    pub good_vector : decoded ed h x ≡ vector_of ed (format_of h x) x
    unfolding decoded
    good_vector = ap (λ (b : Bool). cond b (vector_of ed (format_of h x) x) error_vector) is_valid

    pub good_kind : kind_of ed h x ≡ kind_for (format_of h x) (decoded ed h x)
    unfolding kind_of
    good_kind = ap (λ (b : Bool). cond b (kind_for (format_of h x) (vector_of ed (format_of h x) x)) E) is_valid ∙ ap (kind_for (format_of h x)) (sym good_vector)

    pub good_sound : T (all (sound (format_of h x)))
    unfolding kind_of
    good_sound = of_format (λ f. (kind_by ed f x ≡ E → ⊥) → T (all (sound f))) (λ f. all (sound f)) all_sound (λ f t n. t) (λ n. absurd (n refl)) h x good

  -- ---- the characters of a vector

  pub vector_flag : (f : Format) (x p : ℕ) → p < 8 → flag_of (vector_of ed f x) p ≡ flag_at f.fields p
  vector_flag f x = flags_same (vector_of ed f x) f (refl, refl)

  pub vector_lane : (f : Format) (x p : ℕ) → p < 8 → lane_of (vector_of ed f x) p ≡ octet_at ed f.fields (x / 2 ^ f.lead) p
  vector_lane f x = eight (λ (p : ℕ). lane_of (vector_of ed f x) p ≡ octet_at ed f.fields (x / 2 ^ f.lead) p) refl refl refl refl refl refl refl refl

  -- a character is read from its field of the payload
  pub read_at_lem : (f : Format) (x p : ℕ) → T (all (sound f)) → p < 8
      → octet_at ed f.fields (x / 2 ^ f.lead) p ≡ octet_of ed (field_at f.fields p).slot (x / 2 ^ place_of f p % 2 ^ (field_at f.fields p).bits)
  read_at_lem f x p s h =
      octet_at_lem ed f.fields (x / 2 ^ f.lead) p (sound_has f s p h)
      ∙ ap (λ (z : ℕ). octet_of ed (field_at f.fields p).slot (z % 2 ^ (field_at f.fields p).bits)) (shr-shr x f.lead (place_at f.fields p))

  -- ---- where the data bits stand

  -- Of a valid block: the octet of a data character is the payload's eight bits at its place, so bit j of the octet is the payload's bit
  -- j places on. The place depends on the header and the type alone.
  module _ (h x p : ℕ) (good : kind_of ed h x ≡ E → ⊥) (inside : p < 8) (plain : flag_of (decoded ed h x) p ≡ 0) where
    data_slot_lem : (field_at (format_of h x).fields p).slot ≡ Data
    data_slot_lem =
        data_slot (field_at (format_of h x).fields p).slot
        (sym (flag_at_lem (format_of h x).fields p (sound_has (format_of h x) (good_sound h x good) p inside))
        ∙ sym (vector_flag (format_of h x) x p inside)
        ∙ ap (λ (v : List ℕ). flag_of v p) (sym (good_vector h x good))
        ∙ plain)

    data_bits : (field_at (format_of h x).fields p).bits ≡ 8
    data_bits =
        sound_width (format_of h x) (good_sound h x good) p inside (λ t. subst (λ (s : Slot). T (blind s)) data_slot_lem t)
        ∙ ap width data_slot_lem

    pub data_octet_lem : lane_of (decoded ed h x) p ≡ x / 2 ^ place_of (format_of h x) p % 2 ^ 8
    data_octet_lem =
        ap (λ (v : List ℕ). lane_of v p) (good_vector h x good)
        ∙ vector_lane (format_of h x) x p inside
        ∙ read_at_lem (format_of h x) x p (good_sound h x good) inside
        ∙ ap₂ (λ (s : Slot) (n : ℕ). octet_of ed s (x / 2 ^ place_of (format_of h x) p % 2 ^ n)) data_slot_lem data_bits

    pub data_inside : place_of (format_of h x) p + 8 ≤ 64
    data_inside =
        subst (λ (s : Slot). place_of (format_of h x) p + width s ≤ 64) data_slot_lem (sound_place (format_of h x) (good_sound h x good) p inside)

    pub data_bit : (j : ℕ) → j < 8 → bit (lane_of (decoded ed h x) p) j ≡ bit x (place_of (format_of h x) p + j)
    data_bit j l =
        ap (λ (o : ℕ). bit o j) data_octet_lem ∙ bit_mod (x / 2 ^ place_of (format_of h x) p) 8 j l ∙ bit_shr x (place_of (format_of h x) p) j
