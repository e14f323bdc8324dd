-- A block whose codes are all 0, decoded at once: from the tests of its shape to its class and vector.
use mathlib.Core.Path.{◌≡◌, refl, ◌∙◌, ap, ap₂, subst, sym}
use mathlib.Core.Bool.{Bool, true, false, not, ◌&&◌, ◌||◌}
use mathlib.Core.List.{List}
use Prim.Native.Nat.{ℕ, ◌+◌, ◌-◌, ◌*◌, ◌/◌, ◌%◌, ◌^◌, ◌<◌}
use native.Mathlib.Nat.{mod-lt, mod-mod, add_comm, div-one, lt_of_le_of_lt}
use native.Mathlib.Omega.{arith}
use lib.Dec.{T, lit<, eqb, eqb→eq}
use lib.Bits.{bit_and, bit_or, and_shr, and_mod, or_shr, or_mod, and_mask, and_zero_r, and_le_r, or_zero_r, or_zero_l, or_lt}
use lib.ListN.{get_or}
use lib.Pow.{shr-shr}
use Rattle.block.specs.declared.Edition.{Edition}
use Rattle.block.specs.declared.Edition.TheVariants.{Old, New}
use Rattle.block.specs.declared.Class.{Class}
use Rattle.block.specs.Block.{two_words, Slot, Control, Calm, Data, Set, Start, Terminate, Format, low_power_vector, octet_of, octet_at, flags_at, kind_for, vector_of, decoded_by, decoded, good, class_by, class_of, kind_in, is_error}
use Rattle.block.specs.Rows.{width, field_at, row, row_of}
use Rattle.refusals.proofs.Laws.{by_test}
use Rattle.bits.proofs.Tests.{each, at, all, both_left, both_right, or_right}
use Rattle.block.proofs.Formats.{flags_lt, sound, row_sound}
use Rattle.block.proofs.Reading.{place_of, Below, when_valid, plain_kind}
use Rattle.block.proofs.Classes.{class_good, kind_good}
use Rattle.block.proofs.Sending.{ten}
use Rattle.shapes.specs.declared.Shape.{Shape}
use Rattle.shapes.specs.Shapes.{byte_at, suits_data, suits_code, suits_slot, suits_at, reads_at, OfFormat, OfType, Shapes, plain, typed}
use Rattle.shapes.proofs.Slots.{by_slot}
use Rattle.shapes.proofs.Rows.{row_answer}

-- ---- a shape by its tests

pub of_format : {f : Format} {s : Shape} → s.c0 ≡ flags_at f.fields 0 → s.c1 ≡ flags_at f.fields 4 → s.class ≡ good f.kind
    → T (not (eqb f.type 0x1e) || eqb (byte_at s.fixed 0) 7 && eqb (byte_at s.lanes 0) 0) → T (each (suits_at f s) 0 8) → T (each (reads_at f s) 0 8)
    → OfFormat f s
of_format {f} {s} l h c a t u = record { low = l; high = h; class = c; awake = a; characters = at (suits_at f s) 8 t; reading = at (reads_at f s) 8 u }

pub of_type : {s : Shape} → s.header ≡ 1 → row_of s.first < 16 → s.codes % 2 ^ 8 ≡ 2 ^ 8 - 1 → s.first < 2 ^ 8
    → s.c0 ≡ flags_at (row (row_of s.first)).fields 0 → s.c1 ≡ flags_at (row (row_of s.first)).fields 4 → s.class ≡ good (row (row_of s.first)).kind
    → T (not (eqb (row (row_of s.first)).type 0x1e) || eqb (byte_at s.fixed 0) 7 && eqb (byte_at s.lanes 0) 0)
    → T (each (suits_at (row (row_of s.first)) s) 0 8) → T (each (reads_at (row (row_of s.first)) s) 0 8) → OfType s
of_type {s} e i w b l h c a t u = record { head = e; inside = i; whole = w; byte = b; format = of_format l h c a t u }

-- ---- bits

-- what a mask holds whole is the same in what it lets through
masked : (x z y a w : ℕ) → bit_and x z ≡ y → z / 2 ^ a % 2 ^ w ≡ 2 ^ w - 1 → x / 2 ^ a % 2 ^ w ≡ y / 2 ^ a % 2 ^ w
masked x z y a w e m =
    sym
    (ap (λ (n : ℕ). n / 2 ^ a % 2 ^ w) (sym e)
    ∙ ap (λ (n : ℕ). n % 2 ^ w) (and_shr x z a)
    ∙ and_mod (x / 2 ^ a) (z / 2 ^ a) w
    ∙ ap (bit_and (x / 2 ^ a % 2 ^ w)) m
    ∙ and_mask (x / 2 ^ a % 2 ^ w) w
    ∙ mod-mod (x / 2 ^ a) (2 ^ w))

-- three tests that pass
three : (a b c : Bool) → T (a && b && c) → T a × T b × T c
three a b c t = let u = both_left (a && b) c t in (both_left a b u, both_right a b u, both_right (a && b) c t)

module _ (s : Shape) (x : ℕ) where
  -- the eight octets that a shape makes of a payload
  abbrev pub made : ℕ
  made = bit_or (bit_and (x / 2 ^ s.shift) s.lanes) s.fixed

  pub made_lt : s.lanes < 2 ^ 64 → s.fixed < 2 ^ 64 → made < 2 ^ 64
  made_lt l m = or_lt 64 (bit_and (x / 2 ^ s.shift) s.lanes) s.fixed (lt_of_le_of_lt (and_le_r (x / 2 ^ s.shift) s.lanes) l) m

  byte_made : (p : ℕ) → byte_at made p ≡ bit_or (bit_and (x / 2 ^ (8 * p + s.shift) % 2 ^ 8) (byte_at s.lanes p)) (byte_at s.fixed p)
  byte_made p =
      ap (λ (n : ℕ). n % 2 ^ 8)
      (or_shr (bit_and (x / 2 ^ s.shift) s.lanes) s.fixed (8 * p)
      ∙ ap (λ (n : ℕ). bit_or n (s.fixed / 2 ^ (8 * p)))
      (and_shr (x / 2 ^ s.shift) s.lanes (8 * p)
      ∙ ap (λ (n : ℕ). bit_and n (s.lanes / 2 ^ (8 * p))) (shr-shr x s.shift (8 * p) ∙ ap (λ (n : ℕ). x / 2 ^ n) (add_comm s.shift (8 * p)))))
      ∙ or_mod (bit_and (x / 2 ^ (8 * p + s.shift)) (s.lanes / 2 ^ (8 * p))) (s.fixed / 2 ^ (8 * p)) 8
      ∙ ap (λ (n : ℕ). bit_or n (byte_at s.fixed p)) (and_mod (x / 2 ^ (8 * p + s.shift)) (s.lanes / 2 ^ (8 * p)) 8)

  -- a lane that is not taken has the fixed octet; one that is taken, with none fixed, eight bits of the payload
  byte_fixed : (p : ℕ) → byte_at s.lanes p ≡ 0 → byte_at made p ≡ byte_at s.fixed p
  byte_fixed p e =
      byte_made p
      ∙ ap (λ (n : ℕ). bit_or n (byte_at s.fixed p)) (ap (bit_and (x / 2 ^ (8 * p + s.shift) % 2 ^ 8)) e ∙ and_zero_r (x / 2 ^ (8 * p + s.shift) % 2 ^ 8))
      ∙ or_zero_l (byte_at s.fixed p)

  byte_taken : (p : ℕ) → byte_at s.lanes p ≡ 255 → byte_at s.fixed p ≡ 0 → byte_at made p ≡ x / 2 ^ (8 * p + s.shift) % 2 ^ 8
  byte_taken p e z =
      byte_made p
      ∙ ap₂ (λ (m n : ℕ). bit_or (bit_and (x / 2 ^ (8 * p + s.shift) % 2 ^ 8) m) n) e z
      ∙ or_zero_r (bit_and (x / 2 ^ (8 * p + s.shift) % 2 ^ 8) 255)
      ∙ and_mask (x / 2 ^ (8 * p + s.shift) % 2 ^ 8) 8
      ∙ mod-mod (x / 2 ^ (8 * p + s.shift)) (2 ^ 8)

  -- ---- a character

  module _ (ed : Edition) (there : bit_and x s.codes ≡ s.first) (f : Format) (p : ℕ) where
    value : Slot → ℕ
    value k = octet_of ed k (x / 2 ^ place_of f p % 2 ^ width k)

    of_data : T (suits_data f s p) → value Data ≡ byte_at made p
    unfolding value
    of_data t =
        let w = three (eqb (place_of f p) (8 * p + s.shift)) (eqb (byte_at s.lanes p) 255) (eqb (byte_at s.fixed p) 0) t in
        ap (λ (a : ℕ). x / 2 ^ a % 2 ^ 8) (eqb→eq (place_of f p) (8 * p + s.shift) w.0)
        ∙ sym (byte_taken p (eqb→eq (byte_at s.lanes p) 255 w.1) (eqb→eq (byte_at s.fixed p) 0 w.2))

    of_code : (k : Slot) → T (suits_code f s p k) → value k ≡ byte_at made p
    unfolding value
    of_code k t =
        let u = three (eqb (s.codes / 2 ^ place_of f p % 2 ^ width k) (2 ^ width k - 1) && eqb (s.first / 2 ^ place_of f p % 2 ^ width k) 0 && eqb (byte_at s.lanes p) 0) (eqb (octet_of Old k 0) (byte_at s.fixed p)) (eqb (octet_of New k 0) (byte_at s.fixed p)) t in
        let w = three (eqb (s.codes / 2 ^ place_of f p % 2 ^ width k) (2 ^ width k - 1)) (eqb (s.first / 2 ^ place_of f p % 2 ^ width k) 0) (eqb (byte_at s.lanes p) 0) u.0 in
        ap (octet_of ed k) (masked x s.codes s.first (place_of f p) (width k) there (eqb→eq (s.codes / 2 ^ place_of f p % 2 ^ width k) (2 ^ width k - 1) w.0) ∙ eqb→eq (s.first / 2 ^ place_of f p % 2 ^ width k) 0 w.1)
        ∙ either ed (eqb→eq (octet_of Old k 0) (byte_at s.fixed p) u.1) (eqb→eq (octet_of New k 0) (byte_at s.fixed p) u.2)
        ∙ sym (byte_fixed p (eqb→eq (byte_at s.lanes p) 0 w.2))
      where
        either : (ed : Edition) → octet_of Old k 0 ≡ byte_at s.fixed p → octet_of New k 0 ≡ byte_at s.fixed p → octet_of ed k 0 ≡ byte_at s.fixed p
        either Old a b = a
        either New a b = b

    of_slot : (k : Slot) → T (suits_slot f s p k) → value k ≡ byte_at made p
    of_slot Data = of_data
    of_slot Control = of_code Control
    of_slot Calm = of_code Calm
    of_slot Set = of_code Set
    of_slot Start = of_code Start
    of_slot Terminate = of_code Terminate

    character : T (all (sound f)) → p < 8 → T (suits_at f s p) → octet_at ed f.fields (x / 2 ^ f.lead) p ≡ byte_at made p
    unfolding value
    character q l t =
        by_slot ed f x p q l ∙ of_slot (field_at f.fields p).slot t

  -- ---- the vector and the class

  -- the ten bytes that a shape makes of a payload
  abbrev pub words : List ℕ
  words = two_words s.c0 (made % 4294967296) s.c1 (made / 4294967296)

  module _ (ed : Edition) (there : bit_and x s.codes ≡ s.first) (f : Format) (q : T (all (sound f))) (o : OfFormat f s) where
    octet : (p : ℕ) → p < 8 → byte_at made p ≡ octet_at ed f.fields (x / 2 ^ f.lead) p
    octet p l = sym (character ed there f p q l (o.characters p l))

    words_are : words ≡ vector_of ed f x
    words_are =
        ten o.low (omega arith ∙ octet 0 (lit< tt)) (omega arith ∙ octet 1 (lit< tt)) (omega arith ∙ octet 2 (lit< tt)) (omega arith ∙ octet 3 (lit< tt))
        o.high (omega arith ∙ octet 4 (lit< tt)) (omega arith ∙ octet 5 (lit< tt)) (omega arith ∙ octet 6 (lit< tt)) (omega arith ∙ octet 7 (lit< tt))

    byte_lt : (p : ℕ) → p < 8 → octet_at ed f.fields (x / 2 ^ f.lead) p < 256
    byte_lt p l = subst (λ (n : ℕ). n < 256) (octet p l) (mod-lt (made / 2 ^ (8 * p)) (lit< tt))

    below : Below 256 (vector_of ed f x)
    below =
        (omega (arith, flags_lt f.fields 0), (byte_lt 0 (lit< tt), (byte_lt 1 (lit< tt), (byte_lt 2 (lit< tt), (byte_lt 3 (lit< tt), (omega (arith, flags_lt f.fields 4), (byte_lt 4 (lit< tt), (byte_lt 5 (lit< tt), (byte_lt 6 (lit< tt), (byte_lt 7 (lit< tt), tt))))))))))

    -- no low power idle, for its first octet is 07
    idle : eqb f.type 0x1e ≡ true → vector_of ed f x ≡ low_power_vector → ⊥
    idle e v =
        let w = or_right (not (eqb f.type 0x1e)) (eqb (byte_at s.fixed 0) 7 && eqb (byte_at s.lanes 0) 0) o.awake (λ t. subst (λ (b : Bool). T (not b)) e t) in
        let seven = eqb→eq (byte_at s.fixed 0) 7 (both_left (eqb (byte_at s.fixed 0) 7) (eqb (byte_at s.lanes 0) 0) w) in
        let free = eqb→eq (byte_at s.lanes 0) 0 (both_right (eqb (byte_at s.fixed 0) 7) (eqb (byte_at s.lanes 0) 0) w) in
        let six : octet_at ed f.fields (x / 2 ^ f.lead) 0 ≡ 6 = ap (λ (l : List ℕ). get_or l 1 0) v in
        clash (sym (byte_fixed 0 free ∙ seven) ∙ octet 0 (lit< tt) ∙ six)
      where
        clash : ◌≡◌ {A = ℕ} 7 6 → ⊥
        clash e = omega arith

    kind_is : kind_for f (vector_of ed f x) ≡ f.kind
    unfolding kind_for
    kind_is = by_test (eqb f.type 0x1e) (λ e. plain_kind f (vector_of ed f x) (idle e)) (λ e. rw e)

    pub of_row : (s.class ≡ class_by ed f x) × (words ≡ decoded_by ed f x)
    of_row = (o.class ∙ ap good (sym kind_is) ∙ sym (class_good ed f x below), words_are ∙ sym (when_valid ed f x below).1)

-- ---- a block by its shape

-- no format is of kind E
good_row : (r : ℕ) → r < 16 → is_error (row r).kind ≡ false
good_row r l = not-true (is_error (row r).kind) (at (λ r. not (is_error (row r).kind)) 16 tt r l)
  where
    not-true : (b : Bool) → T (not b) → b ≡ false
    not-true true t = absurd t
    not-true false t = refl

good_format : (s : Shape) (r : ℕ) → r < 16 → OfFormat (row r) s → is_error (kind_in s.class) ≡ false
good_format s r l o = ap (λ (c : Class). is_error (kind_in c)) o.class ∙ ap is_error (kind_good (row r).kind) ∙ good_row r l

module _ (h x n : ℕ) (s : Shape) (same : h ≡ s.header) (there : bit_and x s.codes ≡ s.first) (ed : Edition) where
  answer : Shapes n s → (s.class ≡ class_of ed h x) × (words s x ≡ decoded ed h x) × (is_error (kind_in s.class) ≡ false)
  unfolding class_of decoded
  answer (plain q e o) =
      let w = subst (λ (h : ℕ). (s.class ≡ class_of ed h x) × (words s x ≡ decoded ed h x)) (sym (same ∙ e)) (of_row s x ed there (row 0) (row_sound 0 (lit< tt)) o) in
      (w.0, w.1, good_format s 0 (lit< tt) o)
  answer (typed q o) =
      let w =
      row_answer ed h x (row_of s.first) s.class (words s x) (same ∙ o.head) (ap row_of (sym type_is)) o.inside
      (of_row s x ed there (row (row_of s.first)) (row_sound (row_of s.first) o.inside) o.format) in
      (w.0, w.1, good_format s (row_of s.first) o.inside o.format)
    where
      type_is : x % 256 ≡ s.first
      type_is =
          omega (arith, masked x s.codes s.first 0 8 there (ap (λ (z : ℕ). z % 2 ^ 8) (div-one s.codes) ∙ o.whole), o.byte)

-- what the code answers
pub quickly : (h x n : ℕ) (s : Shape) → Shapes n s → h ≡ s.header → bit_and x s.codes ≡ s.first → (ed : Edition)
    → (s.class ≡ class_of ed h x) × (words s x ≡ decoded ed h x) × (is_error (kind_in s.class) ≡ false)
quickly h x n s w e t ed = answer h x n s e t ed w
