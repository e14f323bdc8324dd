-- The code of one field of a row, and its place in the payload, as the numbers of the rows have them.
use mathlib.Core.Path.{◌≡◌, refl, ◌∙◌, ap, ap₂, subst, subst₂, sym}
use mathlib.Core.Bool.{Bool, true, false, cond}
use mathlib.Core.List.{List, [], ◌∷◌}
use Prim.Native.Nat.{ℕ, ◌+◌, ◌*◌, ◌/◌, ◌%◌, ◌^◌, ◌<◌, ◌≤◌}
use native.Mathlib.Nat.{mod-eq_of_lt, mul_comm, mul-zero, zero-mul}
use native.Mathlib.Omega.{arith}
use lib.Dec.{T, eqb, ltb, leb, ltb→lt, leb→le, eqb→eq}
use lib.Pow.{shl_exact}
use borrow.Author.Tests.{ltb-true, ltb-false, eq-eqb}
use Rattle.block.specs.declared.Edition.{Edition}
use Rattle.block.specs.Block.{Slot, Control, Calm, Data, Set, Start, Terminate, flag_at, flag_of, lane_of, control_bit, code_of, sent_code}
use Rattle.block.specs.Rows.{width, row, SameFlags}
use Rattle.bits.proofs.Tests.{all, holds, each, at, eight}
use Rattle.block.proofs.Reading.{flags_same}
use Rattle.fields.specs.Parts.{spread, field_in, place_of_field, slot_of, fields_by, places_by, field_code}
use Rattle.block.specs.Rows.{slot_number}

-- ---- what every field of every row has

abbrev fine_field : ℕ → ℕ → List Bool
fine_field r i =
    leb (place_of_field r i + (field_in r i).bits) 64
    ∷ ltb (field_in r i).char 8
    ∷ eqb (flag_at (row r).fields (field_in r i).char) (control_bit (field_in r i).slot)
    ∷ leb (width (field_in r i).slot) (field_in r i).bits
    ∷ eqb (fields_by r / 2 ^ (8 * i) % 256) ((field_in r i).char + 8 * slot_number (field_in r i).slot)
    ∷ eqb (places_by r / 2 ^ (8 * i) % 64) (place_of_field r i % 64)
    ∷ []

all_fields : T (each (λ (k : ℕ). all (fine_field (k / 8) (k % 8))) 0 128)
unfolding fields_by places_by
all_fields = tt

slot_is : (s : Slot) → slot_of (slot_number s) ≡ s
slot_is Control = refl
slot_is Calm = refl
slot_is Data = refl
slot_is Set = refl
slot_is Start = refl
slot_is Terminate = refl

-- an octet among the eight
pub lane_of_lem : (c0 c1 lanes p : ℕ) → p < 8 → lane_of (spread c0 c1 lanes) p ≡ lanes / 2 ^ (8 * p) % 2 ^ 8
lane_of_lem c0 c1 lanes =
    eight (λ (p : ℕ). lane_of (spread c0 c1 lanes) p ≡ lanes / 2 ^ (8 * p) % 2 ^ 8)
    (omega arith) (omega arith) (omega arith) (omega arith) (omega arith) (omega arith) (omega arith) (omega arith)

module _ (r i : ℕ) (hr : r < 16) (hi : i < 8) where
  quot : (8 * r + i) / 8 ≡ r
  quot = omega arith

  rest : (8 * r + i) % 8 ≡ i
  rest = omega arith

  fine : T (all (fine_field r i))
  fine = subst₂ (λ (a b : ℕ). T (all (fine_field a b))) quot rest (at (λ (k : ℕ). all (fine_field (k / 8) (k % 8))) 128 all_fields (8 * r + i) (omega arith))

  place_le : place_of_field r i + (field_in r i).bits ≤ 64
  place_le = leb→le (place_of_field r i + (field_in r i).bits) 64 (holds (fine_field r i) 0 fine)

  char_lt : (field_in r i).char < 8
  char_lt = ltb→lt (field_in r i).char 8 (holds (fine_field r i) 1 fine)

  own_flag : flag_at (row r).fields (field_in r i).char ≡ control_bit (field_in r i).slot
  own_flag = eqb→eq (flag_at (row r).fields (field_in r i).char) (control_bit (field_in r i).slot) (holds (fine_field r i) 2 fine)

  pub field_room : T (leb (width (field_in r i).slot) (field_in r i).bits)
  field_room = holds (fine_field r i) 3 fine

  -- of a vector with the row's control bits a field takes the code of its octet
  pub sent_code_lem : (ed : Edition) (c0 c1 lanes : ℕ) → SameFlags (spread c0 c1 lanes) (row r) → sent_code ed (spread c0 c1 lanes) (field_in r i) ≡ field_code ed r i lanes
  sent_code_lem ed c0 c1 lanes e =
      ap (λ (b : Bool). cond b (code_of ed (field_in r i).slot (lane_of (spread c0 c1 lanes) (field_in r i).char)) 256)
      (eq-eqb (flag_of (spread c0 c1 lanes) (field_in r i).char) (control_bit (field_in r i).slot) (flags_same (spread c0 c1 lanes) (row r) e (field_in r i).char char_lt ∙ own_flag))
      ∙ ap (code_of ed (field_in r i).slot) (lane_of_lem c0 c1 lanes (field_in r i).char char_lt)

  field_is : fields_by r / 2 ^ (8 * i) % 256 ≡ (field_in r i).char + 8 * slot_number (field_in r i).slot
  field_is = eqb→eq (fields_by r / 2 ^ (8 * i) % 256) ((field_in r i).char + 8 * slot_number (field_in r i).slot) (holds (fine_field r i) 4 fine)

  pub code_is : (ed : Edition) (lanes f : ℕ) → f ≡ fields_by r
      → code_of ed (slot_of (f / 2 ^ (8 * i) % 256 / 8)) (lanes / 2 ^ (8 * (f / 2 ^ (8 * i) % 256 % 8)) % 256) ≡ field_code ed r i lanes
  code_is ed lanes f e =
      let w : f / 2 ^ (8 * i) % 256 ≡ (field_in r i).char + 8 * slot_number (field_in r i).slot = ap (λ (n : ℕ). n / 2 ^ (8 * i) % 256) e ∙ field_is in
      let n : f / 2 ^ (8 * i) % 256 / 8 ≡ slot_number (field_in r i).slot = omega (arith, w, char_lt) in
      let p : f / 2 ^ (8 * i) % 256 % 8 ≡ (field_in r i).char = omega (arith, w, char_lt) in
      ap₂ (λ (s : Slot) (q : ℕ). code_of ed s (lanes / 2 ^ (8 * q) % 256)) (ap slot_of n ∙ slot_is (field_in r i).slot) p

  place_is : (w : ℕ) → w ≡ places_by r → w / 2 ^ (8 * i) % 64 ≡ place_of_field r i % 64
  place_is w e = ap (λ (n : ℕ). n / 2 ^ (8 * i) % 64) e ∙ eqb→eq (places_by r / 2 ^ (8 * i) % 64) (place_of_field r i % 64) (holds (fine_field r i) 5 fine)

  pub placed_is : (w : ℕ) → w ≡ places_by r → (code : ℕ) → code < 2 ^ (field_in r i).bits → code * 2 ^ (w / 2 ^ (8 * i) % 64) % 2 ^ 64 ≡ 2 ^ place_of_field r i * code
  placed_is w e code h = ap (λ (m : ℕ). code * 2 ^ m % 2 ^ 64) (place_is w e) ∙ go (ltb (place_of_field r i) 64) refl
    where
      zeroed : 64 ≤ place_of_field r i → code ≡ 0
      zeroed k =
          let b : (field_in r i).bits ≡ 0 = omega (arith, place_le) in
          let w : code < 1 = subst (λ (m : ℕ). code < 2 ^ m) b h in
          omega arith

      go : (b : Bool) → ltb (place_of_field r i) 64 ≡ b → code * 2 ^ (place_of_field r i % 64) % 2 ^ 64 ≡ 2 ^ place_of_field r i * code
      go true q =
          ap (λ (m : ℕ). code * 2 ^ m % 2 ^ 64) (mod-eq_of_lt (ltb-true (place_of_field r i) 64 q))
          ∙ shl_exact (field_in r i).bits (place_of_field r i) 64 h (omega (arith, place_le))
          ∙ mul_comm code (2 ^ place_of_field r i)
      go false q =
          let z : code ≡ 0 = zeroed (ltb-false (place_of_field r i) 64 q) in
          ap (λ (m : ℕ). m * 2 ^ (place_of_field r i % 64) % 2 ^ 64) z
          ∙ ap (λ (m : ℕ). m % 2 ^ 64) (zero-mul (2 ^ (place_of_field r i % 64)))
          ∙ sym (ap (λ (m : ℕ). 2 ^ place_of_field r i * m) z ∙ mul-zero (2 ^ place_of_field r i))
