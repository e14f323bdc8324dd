-- Laws of a vector to be sent: the block that carries it has a header 1 or 2 and a payload of 64 bits, and decodes to the vector.
use mathlib.Core.Path.{◌≡◌, refl, ◌∙◌, ap, ap₂, subst, subst₂, sym}
use mathlib.Core.Bool.{Bool, true, false, cond, not, ◌&&◌, ◌||◌}
use mathlib.Core.List.{List, [], ◌∷◌}
use mathlib.Core.Logic.{◌⊎◌, inl, inr}
use Prim.Native.Nat.{ℕ, zero, suc, ◌+◌, ◌*◌, ◌/◌, ◌%◌, ◌^◌, ◌<◌, ◌≤◌}
use native.Mathlib.Nat.{mul_comm, add_comm, mod-eq_of_lt, lt_of_lt_of_le, not-le_of_lt}
use native.Mathlib.Omega.{arith}
use lib.Dec.{T, lit<, eqb, ltb, leb, ltb→lt, leb→le, eqb→eq}
use lib.ListN.{length, get_or}
use lib.Arith.{digits_div, digits_mod, digits_lt}
use lib.Pow.{pow_mono, pow-add}
use borrow.Author.Tests.{eqb-true}
use Rattle.block.specs.declared.Edition.{Edition}
use Rattle.block.specs.declared.Edition.TheVariants.{Old, New}
use Rattle.block.specs.declared.Kind.{Kind}
use Rattle.block.specs.declared.Kind.TheVariants.{E}
use Rattle.block.specs.Block.{Slot, Control, Calm, Data, Set, Start, Terminate, Field, Format, no_format, controls_in, sets, without, code_in, code_of, octet_of, control_bit, code_for, kind_for}
use Rattle.block.specs.Block.{flag_of, lane_of, sent_code, packed, carries, payload_for, block, none, carrier_by, carrier, octet_at, flag_at, format_of, vector_of, kind_by, decoded_by, kind_of, decoded, is_error}
use Rattle.block.specs.Rows.{width, bits_of, formats, row, row_of, format_row, SameFlags}
use Rattle.refusals.proofs.Laws.{by_test}
use Rattle.bits.proofs.Tests.{both_left, both_right, or_right, all, every, every_at, each, at, is_true}
use Rattle.block.proofs.Formats.{has, roomy, sound, sound_roomy, sound_bits, sound_type, sound_has, row_sound, row_format}
use Rattle.block.proofs.Reading.{Below, when_valid, kind_for_lem}

-- ---- a code that is valid fits the bits of its slot

abbrev all_codes : ℕ → List (ℕ × ℕ) → Bool
all_codes m [] = true
all_codes m (p ∷ ps) = ltb p.1 m && all_codes m ps

code_lt : (z m : ℕ) (ps : List (ℕ × ℕ)) (o : ℕ) → 256 ≤ z → T (all_codes m ps) → code_in z ps o < 256 → code_in z ps o < m
code_lt z m [] o w t h = absurd (not-le_of_lt h w)
code_lt z m (p ∷ ps) o w t h = go (eqb p.0 o) h (code_lt z m ps o w (both_right (ltb p.1 m) (all_codes m ps) t))
  where
    go : (b : Bool) → cond b p.1 (code_in z ps o) < 256 → (code_in z ps o < 256 → code_in z ps o < m) → cond b p.1 (code_in z ps o) < m
    go true h ih = ltb→lt p.1 m (both_left (ltb p.1 m) (all_codes m ps) t)
    go false h ih = ih h

chosen : (c m : ℕ) → (c < 256 → c < m) → (t : Bool) → cond t c 256 < 256 → cond t c 256 < m
chosen c m f true h = f h
chosen c m f false h = absurd (not-le_of_lt h (omega arith))

controls_fit : (ed : Edition) → T (all_codes 128 (controls_in ed))
controls_fit Old = tt
controls_fit New = tt

calm_fit : (ed : Edition) → T (all_codes 128 (without 0x1e (controls_in ed)))
calm_fit Old = tt
calm_fit New = tt

-- ---- numbers, lists and formats, whatever the edition

-- n bits above k
turned : (k low high : ℕ) → low + 2 ^ k * high ≡ high * 2 ^ k + low
turned k low high = add_comm low (2 ^ k * high) ∙ ap (λ (n : ℕ). n + low) (mul_comm (2 ^ k) high)

pub above_lt : (k n : ℕ) {low high : ℕ} → low < 2 ^ k → high < 2 ^ n → low + 2 ^ k * high < 2 ^ (k + n)
above_lt k n {low} {high} h l =
    subst₂ (λ (a b : ℕ). a < b) (sym (turned k low high)) (mul_comm (2 ^ n) (2 ^ k) ∙ sym (pow-add 2 k n)) (digits_lt l h)

above_mod : (k : ℕ) {low : ℕ} (high : ℕ) → low < 2 ^ k → (low + 2 ^ k * high) % 2 ^ k ≡ low
above_mod k {low} high h = ap (λ (n : ℕ). n % 2 ^ k) (turned k low high) ∙ digits_mod high h

above_div : (k : ℕ) {low : ℕ} (high : ℕ) → low < 2 ^ k → (low + 2 ^ k * high) / 2 ^ k ≡ high
above_div k {low} high h = ap (λ (n : ℕ). n / 2 ^ k) (turned k low high) ∙ digits_div high h

-- a list by its elements
abbrev pub from : List ℕ → ℕ → ℕ → List ℕ
from v i zero = []
from v i (suc n) = get_or v i 0 ∷ from v (suc i) n

from_cons : (a : ℕ) (v : List ℕ) (i n : ℕ) → from (a ∷ v) (suc i) n ≡ from v i n
from_cons a v i zero = refl
from_cons a v i (suc n) = ap (λ (l : List ℕ). get_or v i 0 ∷ l) (from_cons a v (suc i) n)

pub listed : (v : List ℕ) → v ≡ from v 0 (length v)
listed [] = refl
listed (a ∷ v) = ap (λ (l : List ℕ). a ∷ l) (listed v ∙ sym (from_cons a v 0 (length v)))

all_small : (l : List ℕ) → ((n : ℕ) → get_or l n 0 < 256) → Below 256 l
all_small [] k = tt
all_small (a ∷ l) k = (k 0, all_small l (λ n. k (suc n)))

pub ten : {a a' b b' c c' d d' e e' f f' g g' h h' i i' j j' : ℕ} → a ≡ a' → b ≡ b' → c ≡ c' → d ≡ d' → e ≡ e' → f ≡ f' → g ≡ g' → h ≡ h' → i ≡ i' → j ≡ j'
    → a ∷ b ∷ c ∷ d ∷ e ∷ f ∷ g ∷ h ∷ i ∷ j ∷ [] ≡ a' ∷ b' ∷ c' ∷ d' ∷ e' ∷ f' ∷ g' ∷ h' ∷ i' ∷ j' ∷ []
ten p q r s t u v w x y = λ k. p k ∷ q k ∷ r k ∷ s k ∷ t k ∷ u k ∷ v k ∷ w k ∷ x k ∷ y k ∷ []

by_bits : ℕ → Bool
by_bits n = eqb n (n / 1 % 2 + 2 * (n / 2 % 2) + 4 * (n / 4 % 2) + 8 * (n / 8 % 2))

four_bits : (n : ℕ) → n < 16 → n ≡ n / 1 % 2 + 2 * (n / 2 % 2) + 4 * (n / 4 % 2) + 8 * (n / 8 % 2)
unfolding by_bits
four_bits n h = eqb→eq n (n / 1 % 2 + 2 * (n / 2 % 2) + 4 * (n / 4 % 2) + 8 * (n / 8 % 2)) (at by_bits 16 tt n h)

-- a data block has header 2; a control block has header 1 and its type in eight bits
abbrev headed : Format → Bool
headed f = eqb f.header 2 || (eqb f.header 1 && eqb f.lead 8)

all_headed : T (every headed formats)
all_headed = tt

-- a row is found again by its header and its type
same_row : ℕ → Bool
same_row r = eqb (format_row (row r).header (row r).type) r

-- ---- each valid character comes back from its code

back_at : Edition → Slot → ℕ → Bool
back_at ed s o = leb 256 (code_of ed s o) || eqb (octet_of ed s (code_of ed s o)) o

controls_back : (ed : Edition) → T (each (back_at ed Control) 0 256)
unfolding back_at
controls_back Old = tt
controls_back New = tt

calm_back : (ed : Edition) → T (each (back_at ed Calm) 0 256)
unfolding back_at
calm_back Old = tt
calm_back New = tt

all_back : (ed : Edition) (s : Slot) → T (each (back_at ed s) 0 256)
unfolding back_at
all_back ed Control = controls_back ed
all_back ed Calm = calm_back ed
all_back ed Data = tt
all_back ed Set = tt
all_back ed Start = tt
all_back ed Terminate = tt

module _ (ed : Edition) where
  code_fits : (s : Slot) (o : ℕ) → code_of ed s o < 256 → code_of ed s o < 2 ^ width s
  code_fits Control o = code_lt 256 128 (controls_in ed) o (omega arith) (controls_fit ed)
  code_fits Calm o = code_lt 256 128 (without 0x1e (controls_in ed)) o (omega arith) (calm_fit ed)
  code_fits Data o = λ h. h
  code_fits Set o = code_lt 512 16 sets o (omega arith) tt
  code_fits Start o = chosen 0 1 (λ h. lit< tt) (eqb o 0xfb)
  code_fits Terminate o = chosen 0 1 (λ h. lit< tt) (eqb o 0xfd)

  pub for_fits : (s : Slot) (b o : ℕ) → code_for ed s b o < 256 → code_for ed s b o < 2 ^ width s
  for_fits s b o = chosen (code_of ed s o) (2 ^ width s) (code_fits s o) (eqb b (control_bit s))

  -- a code is sent only for a character with the slot's control bit
  pub own : (s : Slot) (b o : ℕ) → code_for ed s b o < 256 → b ≡ control_bit s
  own s b o h = go (eqb b (control_bit s)) refl h
    where
      go : (z : Bool) → eqb b (control_bit s) ≡ z → cond z (code_of ed s o) 256 < 256 → b ≡ control_bit s
      go true e h = eqb-true b (control_bit s) e
      go false e h = absurd (not-le_of_lt h (omega arith))

  -- ---- the fields that carry a vector

  module _ (v : List ℕ) where
    pub field_lt : (f : Field) → T (leb (width f.slot) f.bits) → sent_code ed v f < 256 → sent_code ed v f < 2 ^ f.bits
    field_lt f t h = lt_of_lt_of_le (for_fits f.slot (flag_of v f.char) (lane_of v f.char) h) (pow_mono (leb→le (width f.slot) f.bits t))

    pub packed_lt : (fs : List Field) → T (roomy fs) → T (carries ed v fs) → packed ed v fs < 2 ^ bits_of fs
    packed_lt [] t k = lit< tt
    packed_lt (f ∷ fs) t k =
        above_lt f.bits (bits_of fs)
        (field_lt f (both_left (leb (width f.slot) f.bits) _ t) (ltb→lt (sent_code ed v f) 256 (both_left (ltb (sent_code ed v f) 256) _ k)))
        (packed_lt fs (both_right (leb (width f.slot) f.bits) _ t) (both_right (ltb (sent_code ed v f) 256) _ k))

    pub agree : (fs : List Field) (p : ℕ) → T (has fs p) → T (carries ed v fs) → flag_at fs p ≡ flag_of v p
    agree [] p h t = absurd h
    agree (f ∷ fs) p h t =
        go (eqb f.char p) refl h (λ k. agree fs p k (both_right (ltb (sent_code ed v f) 256) (carries ed v fs) t))
      where
        go : (b : Bool) → eqb f.char p ≡ b → T (cond b true (has fs p)) → (T (has fs p) → flag_at fs p ≡ flag_of v p) → cond b (control_bit f.slot) (flag_at fs p) ≡ flag_of v p
        go true e h ih =
            sym (own f.slot (flag_of v f.char) (lane_of v f.char) (ltb→lt (sent_code ed v f) 256 (both_left (ltb (sent_code ed v f) 256) (carries ed v fs) t)))
            ∙ ap (flag_of v) (eqb-true f.char p e)
        go false e h ih = ih h

  pub payload_lt : (v : List ℕ) (f : Format) → T (all (sound f)) → T (carries ed v f.fields) → payload_for ed v f < 2 ^ 64
  payload_lt v f s t =
      subst (λ (n : ℕ). payload_for ed v f < 2 ^ n) (sound_bits f s) (above_lt f.lead (bits_of f.fields) (sound_type f s) (packed_lt v f.fields (sound_roomy f s) t))

  -- ---- the format that carries a vector, by its row

  record Carrying (fs : List Format) (v : List ℕ) (k : Kind) (h x : ℕ) : Type 0 where
    place : ℕ
    inside : place < length fs
    carry : T (carries ed v (get_or fs place no_format).fields)
    kind_is : kind_for (get_or fs place no_format) v ≡ k
    header_is : (get_or fs place no_format).header ≡ h
    payload_is : payload_for ed v (get_or fs place no_format) ≡ x

  carrying : (fs : List Format) (v : List ℕ) (k : Kind) (h x : ℕ) → carrier_by ed fs v ≡ block k h x → Carrying fs v k h x
  carrying [] v k h x e = absurd (never e)
    where
      never : none ≡ block k h x → ⊥
      never w = let z : ◌≡◌ {A = ℕ} 0 1 = cc in omega arith
  carrying (f ∷ fs) v k h x e = go (carries ed v f.fields) refl e (carrying fs v k h x)
    where
      go : (b : Bool) → carries ed v f.fields ≡ b → cond b (block (kind_for f v) f.header (payload_for ed v f)) (carrier_by ed fs v) ≡ block k h x
          → (carrier_by ed fs v ≡ block k h x → Carrying fs v k h x) → Carrying (f ∷ fs) v k h x
      go true q e ih = record { place = 0; inside = omega arith; carry = is_true q; kind_is = cc; header_is = cc; payload_is = cc }
      go false q e ih =
          let w = ih e in
          record { place = suc w.place; inside = omega arith; carry = w.carry; kind_is = w.kind_is; header_is = w.header_is; payload_is = w.payload_is }

  module _ (v : List ℕ) (k : Kind) (h x : ℕ) (e : carrier ed v ≡ block k h x) where
    -- a header is 2 or 1, and a payload has 64 bits
    pub carrier_header : (h ≡ 2) ⊎ (h ≡ 1)
    unfolding carrier
    carrier_header =
        let w = carrying formats v k h x e in
        let f : Format = row w.place in
        let t : T (headed f) = every_at headed formats no_format w.place all_headed w.inside in
        by_test (eqb f.header 2)
        (λ z. inl (sym w.header_is ∙ eqb-true f.header 2 z))
        (λ z. inr (sym w.header_is ∙ eqb→eq f.header 1 (both_left (eqb f.header 1) (eqb f.lead 8) (or_right (eqb f.header 2) _ t (λ y. subst T z y)))))

    pub carrier_fits : x < 2 ^ 64
    unfolding carrier
    carrier_fits =
        let w = carrying formats v k h x e in
        subst (λ (n : ℕ). n < 2 ^ 64) w.payload_is (payload_lt v (row w.place) (row_sound w.place w.inside) w.carry)

    -- a block that carries a vector is not of kind E
    pub carrier_kind_lem : k ≡ E → ⊥
    unfolding carrier
    carrier_kind_lem q =
        let w = carrying formats v k h x e in
        let t : T (not (is_error (row w.place).kind)) = every_at (λ f. not (is_error f.kind)) formats no_format w.place tt w.inside in
        subst (λ (n : Kind). T (not (is_error n))) (w.kind_is ∙ q) (kind_for_lem (λ n. T (not (is_error n))) (row w.place) v tt t)

  -- ---- the round trip of one character

  octet_back : (s : Slot) (b o : ℕ) → o < 256 → code_for ed s b o < 256 → octet_of ed s (code_for ed s b o) ≡ o
  unfolding back_at
  octet_back s b o h k = go (eqb b (control_bit s)) k
    where
      go : (z : Bool) → cond z (code_of ed s o) 256 < 256 → octet_of ed s (cond z (code_of ed s o) 256) ≡ o
      go true k =
          eqb→eq (octet_of ed s (code_of ed s o)) o
          (or_right (leb 256 (code_of ed s o)) (eqb (octet_of ed s (code_of ed s o)) o) (at (back_at ed s) 256 (all_back ed s) o h) (λ t. not-le_of_lt k (leb→le 256 (code_of ed s o) t)))
      go false k = absurd (not-le_of_lt k (omega arith))

  -- ---- of the fields

  module _ (v : List ℕ) (byte : (n : ℕ) → get_or v n 0 < 256) where
    octets_back : (fs : List Field) (p : ℕ) → T (has fs p) → T (roomy fs) → T (carries ed v fs) → octet_at ed fs (packed ed v fs) p ≡ lane_of v p
    octets_back [] p h r t = absurd h
    octets_back (f ∷ fs) p h r t =
        go (eqb f.char p) refl h (λ k. octets_back fs p k (both_right (leb (width f.slot) f.bits) (roomy fs) r) (both_right (ltb (sent_code ed v f) 256) (carries ed v fs) t))
      where
        small : sent_code ed v f < 256
        small = ltb→lt (sent_code ed v f) 256 (both_left (ltb (sent_code ed v f) 256) (carries ed v fs) t)

        lt : sent_code ed v f < 2 ^ f.bits
        lt = field_lt v f (both_left (leb (width f.slot) f.bits) (roomy fs) r) small

        low : packed ed v (f ∷ fs) % 2 ^ f.bits ≡ sent_code ed v f
        low = above_mod f.bits (packed ed v fs) lt

        high : packed ed v (f ∷ fs) / 2 ^ f.bits ≡ packed ed v fs
        high = above_div f.bits (packed ed v fs) lt

        go : (b : Bool) → eqb f.char p ≡ b → T (cond b true (has fs p)) → (T (has fs p) → octet_at ed fs (packed ed v fs) p ≡ lane_of v p)
            → cond b (octet_of ed f.slot (packed ed v (f ∷ fs) % 2 ^ f.bits)) (octet_at ed fs (packed ed v (f ∷ fs) / 2 ^ f.bits) p) ≡ lane_of v p
        go true e h ih =
            ap (octet_of ed f.slot) low
            ∙ octet_back f.slot (flag_of v f.char) (lane_of v f.char) (byte (f.char + f.char / 4 + 1)) small
            ∙ ap (lane_of v) (eqb-true f.char p e)
        go false e h ih = ap (λ (n : ℕ). octet_at ed fs n p) high ∙ ih h

  -- a vector that a format carries has its control bytes
  pub carried_flags : (v : List ℕ) (f : Format) → get_or v 0 0 < 16 → get_or v 5 0 < 16 → T (all (sound f)) → T (carries ed v f.fields) → SameFlags v f
  carried_flags v f h k s c =
      let a : (p : ℕ) → p < 8 → flag_at f.fields p ≡ flag_of v p = λ p w. agree v f.fields p (sound_has f s p w) c in
      let a0 = a 0 (omega arith) in
      let a1 = a 1 (omega arith) in
      let a2 = a 2 (omega arith) in
      let a3 = a 3 (omega arith) in
      let a4 = a 4 (omega arith) in
      let a5 = a 5 (omega arith) in
      let a6 = a 6 (omega arith) in
      let a7 = a 7 (omega arith) in
      (omega (arith, four_bits (get_or v 0 0) h), omega (arith, four_bits (get_or v 5 0) k))

  -- ---- of a block

  module _ (v : List ℕ) (byte : (n : ℕ) → get_or v n 0 < 256) (ten-long : length v ≡ 10) (low : get_or v 0 0 < 16) (high : get_or v 5 0 < 16) (r : ℕ) (hr : r < 16) (t : T (carries ed v (row r).fields)) where
    s : T (all (sound (row r)))
    s = row_sound r hr

    rest : payload_for ed v (row r) / 2 ^ (row r).lead ≡ packed ed v (row r).fields
    rest = above_div (row r).lead (packed ed v (row r).fields) (sound_type (row r) s)

    typed : payload_for ed v (row r) % 2 ^ (row r).lead ≡ (row r).type
    typed = above_mod (row r).lead (packed ed v (row r).fields) (sound_type (row r) s)

    same_row_lem : format_row (row r).header (payload_for ed v (row r)) ≡ format_row (row r).header (row r).type
    same_row_lem = go (eqb (row r).header 2) refl
      where
        go : (b : Bool) → eqb (row r).header 2 ≡ b → format_row (row r).header (payload_for ed v (row r)) ≡ format_row (row r).header (row r).type
        go true e = rw e
        go false e =
            let o = or_right (eqb (row r).header 2) (eqb (row r).header 1 && eqb (row r).lead 8) (every_at headed formats no_format r all_headed hr) (λ y. subst T e y) in
            let l : (row r).lead ≡ 8 = eqb→eq (row r).lead 8 (both_right (eqb (row r).header 1) (eqb (row r).lead 8) o) in
            let y : payload_for ed v (row r) % 2 ^ 8 ≡ (row r).type = subst (λ (n : ℕ). payload_for ed v (row r) % 2 ^ n ≡ (row r).type) l typed in
            let z : (row r).type % 2 ^ 8 ≡ (row r).type = mod-eq_of_lt (subst (λ (n : ℕ). (row r).type < 2 ^ n) l (sound_type (row r) s)) in
            ap (λ (n : ℕ). cond (eqb (row r).header 2) 0 (cond (eqb (row r).header 1) (row_of n) 16)) (y ∙ sym z)

    same_format : format_of (row r).header (payload_for ed v (row r)) ≡ row r
    unfolding same_row
    same_format =
        sym (row_format (row r).header (payload_for ed v (row r)))
        ∙ ap row (same_row_lem ∙ eqb→eq (format_row (row r).header (row r).type) r (at same_row 16 tt r hr))

    octet : (p : ℕ) → p < 8 → octet_at ed (row r).fields (payload_for ed v (row r) / 2 ^ (row r).lead) p ≡ lane_of v p
    octet p h =
        ap (λ (n : ℕ). octet_at ed (row r).fields n p) rest
        ∙ octets_back v byte (row r).fields p (sound_has (row r) s p h) (sound_roomy (row r) s) t

    vector_back : vector_of ed (row r) (payload_for ed v (row r)) ≡ v
    vector_back =
        let b : SameFlags v (row r) = carried_flags v (row r) low high s t in
        ten (sym b.0) (octet 0 (lit< tt)) (octet 1 (lit< tt)) (octet 2 (lit< tt)) (octet 3 (lit< tt)) (sym b.1) (octet 4 (lit< tt)) (octet 5 (lit< tt)) (octet 6 (lit< tt)) (octet 7 (lit< tt))
        ∙ sym (listed v ∙ ap (from v 0) ten-long)

    row_back : (kind_of ed (row r).header (payload_for ed v (row r)) ≡ kind_for (row r) v) × (decoded ed (row r).header (payload_for ed v (row r)) ≡ v)
    unfolding kind_of decoded
    row_back =
        let x = payload_for ed v (row r) in
        let w : Below 256 (vector_of ed (row r) x) = subst (Below 256) (sym vector_back) (all_small v byte) in
        (ap (λ (z : Format). kind_by ed z x) same_format ∙ (when_valid ed (row r) x w).0 ∙ ap (kind_for (row r)) vector_back, ap (λ (z : Format). decoded_by ed z x) same_format ∙ (when_valid ed (row r) x w).1 ∙ vector_back)

  -- The round trip: decoding the block that carries a vector gives the vector back, and the block has the vector's kind.
  pub round_trip : (v : List ℕ) (k : Kind) (h x : ℕ) → length v ≡ 10 → ((n : ℕ) → get_or v n 0 < 256) → get_or v 0 0 < 16 → get_or v 5 0 < 16
      → carrier ed v ≡ block k h x → (kind_of ed h x ≡ k) × (decoded ed h x ≡ v)
  unfolding carrier
  round_trip v k h x len byte low high e =
      let w = carrying formats v k h x e in
      let m = row_back v byte len low high w.place w.inside w.carry in
      (ap₂ (kind_of ed) (sym w.header_is) (sym w.payload_is) ∙ m.0 ∙ w.kind_is, ap₂ (decoded ed) (sym w.header_is) (sym w.payload_is) ∙ m.1)
