-- Blocks that are known by a look at all eight octets.
use mathlib.Core.Path.{◌≡◌, refl, ◌∙◌, ap, ap₂, subst, subst₂, sym}
use mathlib.Core.Bool.{false}
use mathlib.Core.List.{[], ◌∷◌}
use Prim.Native.Nat.{ℕ, zero, suc, ◌+◌, ◌-◌, ◌*◌, ◌/◌, ◌%◌, ◌^◌, ◌<◌, ◌≤◌}
use native.Mathlib.Omega.{arith}
use lib.Dec.{lit<}
use lib.Pow.{shr-shr}
use Rattle.std.specs.Prelude.{Some}
use Rattle.block.specs.declared.Edition.{Edition}
use Rattle.block.specs.declared.Edition.TheVariants.{Old, New}
use Rattle.block.specs.declared.Kind.{Kind}
use Rattle.block.specs.declared.Kind.TheVariants.{D, C, S, T, E}
use Rattle.block.specs.Block.{Slot, Control, Data, Set, Start, Terminate, kind_for, code_of, sent_code, carries, carrier, error_payload}
use Rattle.block.specs.Rows.{row}
use Rattle.bits.proofs.Tests.{eight}
use Rattle.block.specs.Coded.{coded_of}
use Rattle.fields.specs.Parts.{spread, field_in, place_of_field, first_by}
use Rattle.fields.proofs.Told.{NoneOf, otherwise}
use Rattle.fields.proofs.Fields.{sent_code_lem}
use Rattle.quick_encoding.proofs.Plain.{data_coded, idle_coded_lem}
use Rattle.fields.proofs.Packing.{Filled, filled_none, filled_more, all_filled, not_filled}
use Rattle.fields.proofs.Choosing.{Trying, first_try, next_try, tried, none_tried, not_tried}

-- ---- the eight octets of a word

abbrev octet : ℕ → ℕ → ℕ
octet lanes p = lanes / 2 ^ (8 * p) % 2 ^ 8

octet_lt : (lanes p : ℕ) → octet lanes p < 256
octet_lt lanes p = omega arith

-- the sum of eight octets
abbrev Eight : (n a b c d e f g h : ℕ) → Type 0
Eight n a b c d e f g h = n ≡ a + 2 ^ 8 * b + 2 ^ 16 * c + 2 ^ 24 * d + 2 ^ 32 * e + 2 ^ 40 * f + 2 ^ 48 * g + 2 ^ 56 * h

eight_octets : (n : ℕ) → n < 2 ^ 64 → Eight n (octet n 0) (octet n 1) (octet n 2) (octet n 3) (octet n 4) (octet n 5) (octet n 6) (octet n 7)
eight_octets n l =
    join n (n / 2 ^ 8) (n / 2 ^ 16) (n / 2 ^ 24) (n / 2 ^ 32) (n / 2 ^ 40) (n / 2 ^ 48) (n / 2 ^ 56) _ _ _ _ _ _ _ _
    (omega arith) (omega (arith, shr-shr n 8 8)) (omega (arith, shr-shr n 16 8)) (omega (arith, shr-shr n 24 8)) (omega (arith, shr-shr n 32 8)) (omega (arith, shr-shr n 40 8)) (omega (arith, shr-shr n 48 8)) (omega arith)
  where
    join : (n p q r s t u v a b c d e f g h : ℕ) → n ≡ a + 2 ^ 8 * p → p ≡ b + 2 ^ 8 * q → q ≡ c + 2 ^ 8 * r → r ≡ d + 2 ^ 8 * s → s ≡ e + 2 ^ 8 * t → t ≡ f + 2 ^ 8 * u → u ≡ g + 2 ^ 8 * v → v ≡ h
        → Eight n a b c d e f g h
    join n p q r s t u v a b c d e f g h h0 h1 h2 h3 h4 h5 h6 h7 = omega arith

-- an octet above bit a, of which the rest of the word is known
above : (n a b z : ℕ) → n / 2 ^ a ≡ z → n / 2 ^ (a + b) % 2 ^ 8 ≡ z / 2 ^ b % 2 ^ 8
above n a b z e = ap (λ (x : ℕ). x % 2 ^ 8) (sym (shr-shr n a b) ∙ ap (λ (x : ℕ). x / 2 ^ b) e)

-- Terminate and seven idles, and the types of Terminate after 0 to 7 octets, the first lowest
abbrev end : ℕ
end = 0x07070707070707fd

abbrev terminates : ℕ
terminates = 0xffe1d2ccb4aa9987

-- ---- the sums of data octets: a Terminate after k of them

module _ (n a b c d e f g h : ℕ) (s : Eight n a b c d e f g h) where
  sum_1 : a < 256 → b ≡ 0xfd → c ≡ 0x07 → d ≡ 0x07 → e ≡ 0x07 → f ≡ 0x07 → g ≡ 0x07 → h ≡ 0x07 → (n - 0x70707070707fd00) * 2 ^ 8 % 2 ^ 64 + 0x99 ≡ 0x99 + 2 ^ 8 * a + 0 + 0 + 0 + 0 + 0 + 0 + 0
  sum_1 la eb ec ed ee ef eg eh = omega arith

  sum_2 : a < 256 → b < 256 → c ≡ 0xfd → d ≡ 0x07 → e ≡ 0x07 → f ≡ 0x07 → g ≡ 0x07 → h ≡ 0x07 → (n - 0x707070707fd0000) * 2 ^ 8 % 2 ^ 64 + 0xaa ≡ 0xaa + 2 ^ 8 * a + 2 ^ 16 * b + 0 + 0 + 0 + 0 + 0 + 0
  sum_2 la lb ec ed ee ef eg eh = omega arith

  sum_3 : a < 256 → b < 256 → c < 256 → d ≡ 0xfd → e ≡ 0x07 → f ≡ 0x07 → g ≡ 0x07 → h ≡ 0x07 → (n - 0x7070707fd000000) * 2 ^ 8 % 2 ^ 64 + 0xb4 ≡ 0xb4 + 2 ^ 8 * a + 2 ^ 16 * b + 2 ^ 24 * c + 0 + 0 + 0 + 0 + 0
  sum_3 la lb lc ed ee ef eg eh = omega arith

  sum_4 : a < 256 → b < 256 → c < 256 → d < 256 → e ≡ 0xfd → f ≡ 0x07 → g ≡ 0x07 → h ≡ 0x07 → (n - 0x70707fd00000000) * 2 ^ 8 % 2 ^ 64 + 0xcc ≡ 0xcc + 2 ^ 8 * a + 2 ^ 16 * b + 2 ^ 24 * c + 2 ^ 32 * d + 0 + 0 + 0 + 0
  sum_4 la lb lc ld ee ef eg eh = omega arith

  sum_5 : a < 256 → b < 256 → c < 256 → d < 256 → e < 256 → f ≡ 0xfd → g ≡ 0x07 → h ≡ 0x07 → (n - 0x707fd0000000000) * 2 ^ 8 % 2 ^ 64 + 0xd2 ≡ 0xd2 + 2 ^ 8 * a + 2 ^ 16 * b + 2 ^ 24 * c + 2 ^ 32 * d + 2 ^ 40 * e + 0 + 0 + 0
  sum_5 la lb lc ld le ef eg eh = omega arith

  sum_6 : a < 256 → b < 256 → c < 256 → d < 256 → e < 256 → f < 256 → g ≡ 0xfd → h ≡ 0x07 → (n - 0x7fd000000000000) * 2 ^ 8 % 2 ^ 64 + 0xe1 ≡ 0xe1 + 2 ^ 8 * a + 2 ^ 16 * b + 2 ^ 24 * c + 2 ^ 32 * d + 2 ^ 40 * e + 2 ^ 48 * f + 0 + 0
  sum_6 la lb lc ld le lf eg eh = omega arith

  sum_7 : a < 256 → b < 256 → c < 256 → d < 256 → e < 256 → f < 256 → g < 256 → h ≡ 0xfd → (n - 0xfd00000000000000) * 2 ^ 8 % 2 ^ 64 + 0xff ≡ 0xff + 2 ^ 8 * a + 2 ^ 16 * b + 2 ^ 24 * c + 2 ^ 32 * d + 2 ^ 40 * e + 2 ^ 48 * f + 2 ^ 56 * g + 0
  sum_7 la lb lc ld le lf lg eh = omega arith

module _ (ed : Edition) where
  -- ---- the code of an octet that is data, or that has code 0

  record Coding (s : Slot) (o q : ℕ) : Type 0 where
    is : code_of ed s o ≡ q
    small : q < 256

  datum : (n p : ℕ) → Coding Data (octet n p) (octet n p)
  datum n p = record { is = refl; small = octet_lt n p }

  ended : {o : ℕ} → o ≡ 0xfd → Coding Terminate o 0
  ended e = record { is = ap (code_of ed Terminate) e; small = lit< tt }

  started : {o : ℕ} → o ≡ 0xfb → Coding Start o 0
  started e = record { is = ap (code_of ed Start) e; small = lit< tt }

  ordered : {o : ℕ} → o ≡ 0x9c → Coding Set o 0
  ordered e = record { is = ap (code_of ed Set) e; small = lit< tt }

  idle : {o : ℕ} → o ≡ 0x07 → Coding Control o 0
  idle e = record { is = ap (code_of ed Control) e ∙ at_seven ed; small = lit< tt }
    where
      at_seven : (ed : Edition) → code_of ed Control 0x07 ≡ 0
      at_seven Old = refl
      at_seven New = refl

  -- ---- a row whose fields have these codes

  module _ (r c0 c1 lanes : ℕ) (hr : r < 16) (w : Trying ed (spread c0 c1 lanes) r) (some : 0 < c0 + 16 * c1) where
    one : (i p q : ℕ) → i < 8 → Coding (field_in r i).slot (octet lanes (field_in r i).char) q → Filled ed r (spread c0 c1 lanes) i p
        → Filled ed r (spread c0 c1 lanes) (i + 1) (p + 2 ^ place_of_field r i * q)
    one i p q h k f =
        let e : sent_code ed (spread c0 c1 lanes) (field_in r i) ≡ q = sent_code_lem r i hr h ed c0 c1 lanes (w.flags hr) ∙ k.is in
        subst (λ (n : ℕ). Filled ed r (spread c0 c1 lanes) (i + 1) (p + 2 ^ place_of_field r i * n)) e
        (filled_more ed r (spread c0 c1 lanes) hr i h p f (subst (λ (n : ℕ). n < 256) (sym e) k.small))

    by_row : (k : Kind) (payload q0 q1 q2 q3 q4 q5 q6 q7 : ℕ) → k ≡ kind_for (row r) (spread c0 c1 lanes)
        → Coding (field_in r 0).slot (octet lanes (field_in r 0).char) q0 → Coding (field_in r 1).slot (octet lanes (field_in r 1).char) q1
        → Coding (field_in r 2).slot (octet lanes (field_in r 2).char) q2 → Coding (field_in r 3).slot (octet lanes (field_in r 3).char) q3
        → Coding (field_in r 4).slot (octet lanes (field_in r 4).char) q4 → Coding (field_in r 5).slot (octet lanes (field_in r 5).char) q5
        → Coding (field_in r 6).slot (octet lanes (field_in r 6).char) q6 → Coding (field_in r 7).slot (octet lanes (field_in r 7).char) q7
        → payload ≡ (row r).type + 2 ^ place_of_field r 0 * q0 + 2 ^ place_of_field r 1 * q1 + 2 ^ place_of_field r 2 * q2 + 2 ^ place_of_field r 3 * q3 + 2 ^ place_of_field r 4 * q4 + 2 ^ place_of_field r 5 * q5 + 2 ^ place_of_field r 6 * q6 + 2 ^ place_of_field r 7 * q7
        → record { kind = k; header = 1; payload = payload } ≡ coded_of (carrier ed (spread c0 c1 lanes))
    by_row k payload q0 q1 q2 q3 q4 q5 q6 q7 ek k0 k1 k2 k3 k4 k5 k6 k7 e =
        tried ed (spread c0 c1 lanes) r k payload hr w some ek
        (ap Some e
        ∙ all_filled ed r (spread c0 c1 lanes) hr 8 _ (omega arith)
        (one 7 _ q7 (lit< tt) k7 (one 6 _ q6 (lit< tt) k6 (one 5 _ q5 (lit< tt) k5 (one 4 _ q4 (lit< tt) k4 (one 3 _ q3 (lit< tt) k3 (one 2 _ q2 (lit< tt) k2 (one 1 _ q1 (lit< tt) k1 (one 0 _ q0 (lit< tt) k0 (filled_none ed r (spread c0 c1 lanes) (row r).type refl))))))))))

  -- a field that does not take its octet: the row is passed
  passed : (r i c0 c1 lanes : ℕ) → r < 16 → i < 8 → Trying ed (spread c0 c1 lanes) r → 256 ≤ code_of ed (field_in r i).slot (octet lanes (field_in r i).char)
      → carries ed (spread c0 c1 lanes) (row r).fields ≡ false
  passed r i c0 c1 lanes hr hi w h =
      let e = sent_code_lem r i hr hi ed c0 c1 lanes (w.flags hr) in
      not_tried ed (spread c0 c1 lanes) r (not_filled ed r (spread c0 c1 lanes) hr i hi (subst (λ (n : ℕ). 256 ≤ n) (sym e) h))

  -- ---- Terminate after k octets, and idles

  abbrev Ends : ℕ → Type 0
  Ends k =
      (c0 c1 lanes : ℕ) → c0 ≤ 15 → c1 ≤ 15 → lanes < 2 ^ 64 → c0 + 16 * c1 + 2 ^ k ≡ 256 → lanes / 2 ^ (8 * k) ≡ end * 2 ^ (8 * k) % 2 ^ 64 / 2 ^ (8 * k)
      → record { kind = T; header = 1; payload = (lanes - end * 2 ^ (8 * k) % 2 ^ 64) * 2 ^ 8 % 2 ^ 64 + terminates / 2 ^ (8 * k) % 256 } ≡ coded_of (carrier ed (spread c0 c1 lanes))

  end_0 : Ends 0
  unfolding carrier kind_for
  end_0 c0 c1 lanes u w l m e =
      let a : 15 ≡ c0 = omega arith in
      let b : 15 ≡ c1 = omega arith in
      let z : end ≡ lanes = omega arith in
      subst (λ (x : ℕ). record { kind = T; header = 1; payload = (x - end) * 2 ^ 8 % 2 ^ 64 + 0x87 } ≡ coded_of (carrier ed (spread c0 c1 x))) z
      (subst₂ (λ (x y : ℕ). record { kind = T; header = 1; payload = 0x87 } ≡ coded_of (carrier ed (spread x y end))) a b (at_once ed))
    where
      at_once : (ed : Edition) → record { kind = T; header = 1; payload = 0x87 } ≡ coded_of (carrier ed (spread 15 15 end))
      at_once Old = refl
      at_once New = refl

  end_1 : Ends 1
  unfolding kind_for
  end_1 c0 c1 lanes u w l m q =
      let a : 14 ≡ c0 = omega arith in
      let b : 15 ≡ c1 = omega arith in
      subst₂ (λ (x y : ℕ). record { kind = T; header = 1; payload = (lanes - 0x70707070707fd00) * 2 ^ 8 % 2 ^ 64 + 0x99 } ≡ coded_of (carrier ed (spread x y lanes))) a b at_once
    where
      at_once : record { kind = T; header = 1; payload = (lanes - 0x70707070707fd00) * 2 ^ 8 % 2 ^ 64 + 0x99 } ≡ coded_of (carrier ed (spread 14 15 lanes))
      at_once =
          by_row 9 14 15 lanes (lit< tt) (first_try ed (spread 14 15 lanes) (lit< tt) (lit< tt) 9 refl) (lit< tt) T _ (octet lanes 0) 0 0 0 0 0 0 0 refl
          (datum lanes 0) (ended (above lanes 8 0 0x70707070707fd q)) (idle (above lanes 8 8 0x70707070707fd q)) (idle (above lanes 8 16 0x70707070707fd q))
          (idle (above lanes 8 24 0x70707070707fd q)) (idle (above lanes 8 32 0x70707070707fd q)) (idle (above lanes 8 40 0x70707070707fd q))
          (idle (above lanes 8 48 0x70707070707fd q))
          (sum_1 lanes (octet lanes 0) (octet lanes 1) (octet lanes 2) (octet lanes 3) (octet lanes 4) (octet lanes 5) (octet lanes 6) (octet lanes 7)
          (eight_octets lanes l) (octet_lt lanes 0) (above lanes 8 0 0x70707070707fd q) (above lanes 8 8 0x70707070707fd q)
          (above lanes 8 16 0x70707070707fd q) (above lanes 8 24 0x70707070707fd q) (above lanes 8 32 0x70707070707fd q) (above lanes 8 40 0x70707070707fd q)
          (above lanes 8 48 0x70707070707fd q))

  end_2 : Ends 2
  unfolding kind_for
  end_2 c0 c1 lanes u w l m q =
      let a : 12 ≡ c0 = omega arith in
      let b : 15 ≡ c1 = omega arith in
      subst₂ (λ (x y : ℕ). record { kind = T; header = 1; payload = (lanes - 0x707070707fd0000) * 2 ^ 8 % 2 ^ 64 + 0xaa } ≡ coded_of (carrier ed (spread x y lanes))) a b at_once
    where
      at_once : record { kind = T; header = 1; payload = (lanes - 0x707070707fd0000) * 2 ^ 8 % 2 ^ 64 + 0xaa } ≡ coded_of (carrier ed (spread 12 15 lanes))
      at_once =
          by_row 10 12 15 lanes (lit< tt) (first_try ed (spread 12 15 lanes) (lit< tt) (lit< tt) 10 refl) (lit< tt) T _ (octet lanes 0) (octet lanes 1) 0 0 0 0 0 0 refl
          (datum lanes 0) (datum lanes 1) (ended (above lanes 16 0 0x707070707fd q)) (idle (above lanes 16 8 0x707070707fd q)) (idle (above lanes 16 16 0x707070707fd q)) (idle (above lanes 16 24 0x707070707fd q)) (idle (above lanes 16 32 0x707070707fd q)) (idle (above lanes 16 40 0x707070707fd q))
          (sum_2 lanes (octet lanes 0) (octet lanes 1) (octet lanes 2) (octet lanes 3) (octet lanes 4) (octet lanes 5) (octet lanes 6) (octet lanes 7)
          (eight_octets lanes l) (octet_lt lanes 0) (octet_lt lanes 1) (above lanes 16 0 0x707070707fd q) (above lanes 16 8 0x707070707fd q)
          (above lanes 16 16 0x707070707fd q) (above lanes 16 24 0x707070707fd q) (above lanes 16 32 0x707070707fd q) (above lanes 16 40 0x707070707fd q))

  end_3 : Ends 3
  unfolding kind_for
  end_3 c0 c1 lanes u w l m q =
      let a : 8 ≡ c0 = omega arith in
      let b : 15 ≡ c1 = omega arith in
      subst₂ (λ (x y : ℕ). record { kind = T; header = 1; payload = (lanes - 0x7070707fd000000) * 2 ^ 8 % 2 ^ 64 + 0xb4 } ≡ coded_of (carrier ed (spread x y lanes))) a b at_once
    where
      at_once : record { kind = T; header = 1; payload = (lanes - 0x7070707fd000000) * 2 ^ 8 % 2 ^ 64 + 0xb4 } ≡ coded_of (carrier ed (spread 8 15 lanes))
      at_once =
          by_row 11 8 15 lanes (lit< tt) (first_try ed (spread 8 15 lanes) (lit< tt) (lit< tt) 11 refl) (lit< tt) T _ (octet lanes 0) (octet lanes 1) (octet lanes 2) 0 0 0 0 0 refl
          (datum lanes 0) (datum lanes 1) (datum lanes 2) (ended (above lanes 24 0 0x7070707fd q)) (idle (above lanes 24 8 0x7070707fd q)) (idle (above lanes 24 16 0x7070707fd q)) (idle (above lanes 24 24 0x7070707fd q)) (idle (above lanes 24 32 0x7070707fd q))
          (sum_3 lanes (octet lanes 0) (octet lanes 1) (octet lanes 2) (octet lanes 3) (octet lanes 4) (octet lanes 5) (octet lanes 6) (octet lanes 7)
          (eight_octets lanes l) (octet_lt lanes 0) (octet_lt lanes 1) (octet_lt lanes 2) (above lanes 24 0 0x7070707fd q) (above lanes 24 8 0x7070707fd q)
          (above lanes 24 16 0x7070707fd q) (above lanes 24 24 0x7070707fd q) (above lanes 24 32 0x7070707fd q))

  end_4 : Ends 4
  unfolding kind_for
  end_4 c0 c1 lanes u w l m q =
      let a : 0 ≡ c0 = omega arith in
      let b : 15 ≡ c1 = omega arith in
      subst₂ (λ (x y : ℕ). record { kind = T; header = 1; payload = (lanes - 0x70707fd00000000) * 2 ^ 8 % 2 ^ 64 + 0xcc } ≡ coded_of (carrier ed (spread x y lanes))) a b at_once
    where
      at_once : record { kind = T; header = 1; payload = (lanes - 0x70707fd00000000) * 2 ^ 8 % 2 ^ 64 + 0xcc } ≡ coded_of (carrier ed (spread 0 15 lanes))
      at_once =
          by_row 12 0 15 lanes (lit< tt) (first_try ed (spread 0 15 lanes) (lit< tt) (lit< tt) 12 refl) (lit< tt) T _ (octet lanes 0) (octet lanes 1) (octet lanes 2) (octet lanes 3) 0 0 0 0 refl
          (datum lanes 0) (datum lanes 1) (datum lanes 2) (datum lanes 3) (ended (above lanes 32 0 0x70707fd q)) (idle (above lanes 32 8 0x70707fd q)) (idle (above lanes 32 16 0x70707fd q)) (idle (above lanes 32 24 0x70707fd q))
          (sum_4 lanes (octet lanes 0) (octet lanes 1) (octet lanes 2) (octet lanes 3) (octet lanes 4) (octet lanes 5) (octet lanes 6) (octet lanes 7)
          (eight_octets lanes l) (octet_lt lanes 0) (octet_lt lanes 1) (octet_lt lanes 2) (octet_lt lanes 3) (above lanes 32 0 0x70707fd q)
          (above lanes 32 8 0x70707fd q) (above lanes 32 16 0x70707fd q) (above lanes 32 24 0x70707fd q))

  end_5 : Ends 5
  unfolding kind_for
  end_5 c0 c1 lanes u w l m q =
      let a : 0 ≡ c0 = omega arith in
      let b : 14 ≡ c1 = omega arith in
      subst₂ (λ (x y : ℕ). record { kind = T; header = 1; payload = (lanes - 0x707fd0000000000) * 2 ^ 8 % 2 ^ 64 + 0xd2 } ≡ coded_of (carrier ed (spread x y lanes))) a b at_once
    where
      at_once : record { kind = T; header = 1; payload = (lanes - 0x707fd0000000000) * 2 ^ 8 % 2 ^ 64 + 0xd2 } ≡ coded_of (carrier ed (spread 0 14 lanes))
      at_once =
          by_row 13 0 14 lanes (lit< tt) (first_try ed (spread 0 14 lanes) (lit< tt) (lit< tt) 13 refl) (lit< tt) T _ (octet lanes 0) (octet lanes 1) (octet lanes 2) (octet lanes 3) (octet lanes 4) 0 0 0 refl
          (datum lanes 0) (datum lanes 1) (datum lanes 2) (datum lanes 3) (datum lanes 4) (ended (above lanes 40 0 0x707fd q)) (idle (above lanes 40 8 0x707fd q)) (idle (above lanes 40 16 0x707fd q))
          (sum_5 lanes (octet lanes 0) (octet lanes 1) (octet lanes 2) (octet lanes 3) (octet lanes 4) (octet lanes 5) (octet lanes 6) (octet lanes 7)
          (eight_octets lanes l) (octet_lt lanes 0) (octet_lt lanes 1) (octet_lt lanes 2) (octet_lt lanes 3) (octet_lt lanes 4) (above lanes 40 0 0x707fd q)
          (above lanes 40 8 0x707fd q) (above lanes 40 16 0x707fd q))

  end_6 : Ends 6
  unfolding kind_for
  end_6 c0 c1 lanes u w l m q =
      let a : 0 ≡ c0 = omega arith in
      let b : 12 ≡ c1 = omega arith in
      subst₂ (λ (x y : ℕ). record { kind = T; header = 1; payload = (lanes - 0x7fd000000000000) * 2 ^ 8 % 2 ^ 64 + 0xe1 } ≡ coded_of (carrier ed (spread x y lanes))) a b at_once
    where
      at_once : record { kind = T; header = 1; payload = (lanes - 0x7fd000000000000) * 2 ^ 8 % 2 ^ 64 + 0xe1 } ≡ coded_of (carrier ed (spread 0 12 lanes))
      at_once =
          by_row 14 0 12 lanes (lit< tt) (first_try ed (spread 0 12 lanes) (lit< tt) (lit< tt) 14 refl) (lit< tt) T _ (octet lanes 0) (octet lanes 1) (octet lanes 2) (octet lanes 3) (octet lanes 4) (octet lanes 5) 0 0 refl
          (datum lanes 0) (datum lanes 1) (datum lanes 2) (datum lanes 3) (datum lanes 4) (datum lanes 5) (ended (above lanes 48 0 0x7fd q)) (idle (above lanes 48 8 0x7fd q))
          (sum_6 lanes (octet lanes 0) (octet lanes 1) (octet lanes 2) (octet lanes 3) (octet lanes 4) (octet lanes 5) (octet lanes 6) (octet lanes 7)
          (eight_octets lanes l) (octet_lt lanes 0) (octet_lt lanes 1) (octet_lt lanes 2) (octet_lt lanes 3) (octet_lt lanes 4) (octet_lt lanes 5)
          (above lanes 48 0 0x7fd q) (above lanes 48 8 0x7fd q))

  end_7 : Ends 7
  unfolding kind_for
  end_7 c0 c1 lanes u w l m q =
      let a : 0 ≡ c0 = omega arith in
      let b : 8 ≡ c1 = omega arith in
      subst₂ (λ (x y : ℕ). record { kind = T; header = 1; payload = (lanes - 0xfd00000000000000) * 2 ^ 8 % 2 ^ 64 + 0xff } ≡ coded_of (carrier ed (spread x y lanes))) a b at_once
    where
      at_once : record { kind = T; header = 1; payload = (lanes - 0xfd00000000000000) * 2 ^ 8 % 2 ^ 64 + 0xff } ≡ coded_of (carrier ed (spread 0 8 lanes))
      at_once =
          by_row 15 0 8 lanes (lit< tt) (first_try ed (spread 0 8 lanes) (lit< tt) (lit< tt) 15 refl) (lit< tt) T _ (octet lanes 0) (octet lanes 1) (octet lanes 2) (octet lanes 3) (octet lanes 4) (octet lanes 5) (octet lanes 6) 0 refl
          (datum lanes 0) (datum lanes 1) (datum lanes 2) (datum lanes 3) (datum lanes 4) (datum lanes 5) (datum lanes 6) (ended (above lanes 56 0 0xfd q))
          (sum_7 lanes (octet lanes 0) (octet lanes 1) (octet lanes 2) (octet lanes 3) (octet lanes 4) (octet lanes 5) (octet lanes 6) (octet lanes 7)
          (eight_octets lanes l) (octet_lt lanes 0) (octet_lt lanes 1) (octet_lt lanes 2) (octet_lt lanes 3) (octet_lt lanes 4) (octet_lt lanes 5)
          (octet_lt lanes 6) (above lanes 56 0 0xfd q))

  pub end_coded : (k : ℕ) → k < 8 → Ends k
  end_coded = eight Ends end_0 end_1 end_2 end_3 end_4 end_5 end_6 end_7

  -- ---- data octets after a control character

  abbrev pub Coded-as : Kind → ℕ → ℕ → ℕ → ℕ → Type 0
  Coded-as k payload c0 c1 lanes = record { kind = k; header = 1; payload = payload } ≡ coded_of (carrier ed (spread c0 c1 lanes))

  -- Start in the first word
  start_first : (lanes : ℕ) → lanes < 2 ^ 64 → lanes % 256 ≡ 0xfb → Coded-as S (lanes - 0xfb + 0x78) 1 0 lanes
  unfolding kind_for
  start_first lanes l e =
      by_row 6 1 0 lanes (lit< tt) (first_try ed (spread 1 0 lanes) (lit< tt) (lit< tt) 6 refl) (lit< tt) S _ 0 (octet lanes 1) (octet lanes 2) (octet lanes 3) (octet lanes 4) (octet lanes 5) (octet lanes 6) (octet lanes 7) refl
      (started z) (datum lanes 1) (datum lanes 2) (datum lanes 3) (datum lanes 4) (datum lanes 5) (datum lanes 6) (datum lanes 7)
      (sum lanes (octet lanes 0) (octet lanes 1) (octet lanes 2) (octet lanes 3) (octet lanes 4) (octet lanes 5) (octet lanes 6) (octet lanes 7) (eight_octets lanes l) z)
    where
      z : octet lanes 0 ≡ 0xfb
      z = omega arith

      sum : (n a b c d e f g h : ℕ) → Eight n a b c d e f g h → a ≡ 0xfb → n - 0xfb + 0x78 ≡ 0x78 + 0 + 2 ^ 8 * b + 2 ^ 16 * c + 2 ^ 24 * d + 2 ^ 32 * e + 2 ^ 40 * f + 2 ^ 48 * g + 2 ^ 56 * h
      sum n a b c d e f g h s p = omega arith

  -- idles in the first word, Start in the second: the row of an ordered set there is passed
  start_second : (lanes : ℕ) → lanes < 2 ^ 64 → lanes % 2 ^ 40 ≡ 0xfb07070707 → Coded-as S (lanes - 0xfb07070707 + 0x33) 15 1 lanes
  unfolding kind_for
  start_second lanes l e =
      by_row 3 15 1 lanes (lit< tt) try (lit< tt) S _ 0 0 0 0 0 (octet lanes 5) (octet lanes 6) (octet lanes 7) refl
      (idle p0) (idle p1) (idle p2) (idle p3) (started p4) (datum lanes 5) (datum lanes 6) (datum lanes 7)
      (sum lanes (octet lanes 0) (octet lanes 1) (octet lanes 2) (octet lanes 3) (octet lanes 4) (octet lanes 5) (octet lanes 6) (octet lanes 7) (eight_octets lanes l) p0 p1 p2 p3 p4)
    where
      p0 : octet lanes 0 ≡ 0x07
      p0 = omega arith

      p1 : octet lanes 1 ≡ 0x07
      p1 = omega arith

      p2 : octet lanes 2 ≡ 0x07
      p2 = omega arith

      p3 : octet lanes 3 ≡ 0x07
      p3 = omega arith

      p4 : octet lanes 4 ≡ 0xfb
      p4 = omega arith

      first : Trying ed (spread 15 1 lanes) 2
      first = first_try ed (spread 15 1 lanes) (lit< tt) (lit< tt) 2 refl

      try : Trying ed (spread 15 1 lanes) 3
      try =
          next_try ed (spread 15 1 lanes) (lit< tt) (lit< tt) 2 3 (lit< tt) first
          (passed 2 4 15 1 lanes (lit< tt) (lit< tt) first (subst (λ (n : ℕ). 256 ≤ code_of ed Set n) (sym p4) (omega arith))) refl

      sum : (n a b c d e f g h : ℕ) → Eight n a b c d e f g h → a ≡ 0x07 → b ≡ 0x07 → c ≡ 0x07 → d ≡ 0x07 → e ≡ 0xfb
          → n - 0xfb07070707 + 0x33 ≡ 0x33 + 0 + 0 + 0 + 0 + 0 + 2 ^ 40 * f + 2 ^ 48 * g + 2 ^ 56 * h
      sum n a b c d e f g h s h0 h1 h2 h3 h4 = omega arith

  -- two ordered sets: the row of a Start in the second word is passed
  two_sets : (lanes : ℕ) → lanes < 2 ^ 64 → lanes % 256 ≡ 0x9c → lanes / 2 ^ 32 % 256 ≡ 0x9c → Coded-as C (lanes - 0x9c0000009c + 0x55) 1 1 lanes
  unfolding kind_for
  two_sets lanes l e q =
      by_row 5 1 1 lanes (lit< tt) try (lit< tt) C _ (octet lanes 1) (octet lanes 2) (octet lanes 3) 0 0 (octet lanes 5) (octet lanes 6) (octet lanes 7) refl
      (datum lanes 1) (datum lanes 2) (datum lanes 3) (ordered z) (ordered q) (datum lanes 5) (datum lanes 6) (datum lanes 7)
      (sum lanes (octet lanes 0) (octet lanes 1) (octet lanes 2) (octet lanes 3) (octet lanes 4) (octet lanes 5) (octet lanes 6) (octet lanes 7) (eight_octets lanes l) z q)
    where
      z : octet lanes 0 ≡ 0x9c
      z = omega arith

      first : Trying ed (spread 1 1 lanes) 4
      first = first_try ed (spread 1 1 lanes) (lit< tt) (lit< tt) 4 refl

      try : Trying ed (spread 1 1 lanes) 5
      try =
          next_try ed (spread 1 1 lanes) (lit< tt) (lit< tt) 4 5 (lit< tt) first
          (passed 4 4 1 1 lanes (lit< tt) (lit< tt) first (subst (λ (n : ℕ). 256 ≤ code_of ed Start n) (sym q) (omega arith))) refl

      sum : (n a b c d e f g h : ℕ) → Eight n a b c d e f g h → a ≡ 0x9c → e ≡ 0x9c
          → n - 0x9c0000009c + 0x55 ≡ 0x55 + 2 ^ 8 * b + 2 ^ 16 * c + 2 ^ 24 * d + 0 + 0 + 2 ^ 40 * f + 2 ^ 48 * g + 2 ^ 56 * h
      sum n a b c d e f g h s p q = omega arith

  -- the same by the control bits
  module _ (c0 c1 lanes : ℕ) (u : c0 ≤ 15) (w : c1 ≤ 15) (l : lanes < 2 ^ 64) where
    with_bits : (x y payload : ℕ) (k : Kind) → Coded-as k payload x y lanes → x ≡ c0 → y ≡ c1 → Coded-as k payload c0 c1 lanes
    with_bits x y payload k z a b = subst₂ (λ (i j : ℕ). Coded-as k payload i j lanes) a b z

    pub start_first_coded : c0 + 16 * c1 ≡ 0x01 → lanes % 256 ≡ 0xfb → Coded-as S (lanes - 0xfb + 0x78) c0 c1 lanes
    start_first_coded m e = with_bits 1 0 _ S (start_first lanes l e) (omega arith) (omega arith)

    pub start_second_coded : c0 + 16 * c1 ≡ 0x1f → lanes % 2 ^ 40 ≡ 0xfb07070707 → Coded-as S (lanes - 0xfb07070707 + 0x33) c0 c1 lanes
    start_second_coded m e = with_bits 15 1 _ S (start_second lanes l e) (omega arith) (omega arith)

    pub two_sets_coded : c0 + 16 * c1 ≡ 0x11 → lanes % 256 ≡ 0x9c → lanes / 2 ^ 32 % 256 ≡ 0x9c → Coded-as C (lanes - 0x9c0000009c + 0x55) c0 c1 lanes
    two_sets_coded m e q = with_bits 1 1 _ C (two_sets lanes l e q) (omega arith) (omega arith)

    -- no row has the control bits
    pub none_coded : 0 < c0 + 16 * c1 → ((j : ℕ) → j < 8 → c0 + 16 * c1 + 2 ^ j ≡ 256 → ⊥) → NoneOf (0xf1 ∷ 0x1f ∷ 0x11 ∷ 0x01 ∷ []) (c0 + 16 * c1)
        → Coded-as E error_payload c0 c1 lanes
    none_coded s n t =
        none_tried ed (spread c0 c1 lanes) 16 (omega arith)
        (first_try ed (spread c0 c1 lanes) (omega arith) (omega arith) 16
        (otherwise (0xff ∷ 0xfe ∷ 0xfc ∷ 0xf8 ∷ 0xf0 ∷ 0xe0 ∷ 0xc0 ∷ 0x80 ∷ 0 ∷ 0xf1 ∷ 0x1f ∷ 0x11 ∷ 0x01 ∷ []) first_by 16 256 tt (c0 + 16 * c1) (omega arith) (
          (
            (
              (
                (
                  ((((t, λ e. absurd (omega arith)), λ e. n 7 (lit< tt) (omega arith)), λ e. n 6 (lit< tt) (omega arith)), λ e. n 5 (lit< tt) (omega arith)),
                  λ e. n 4 (lit< tt) (omega arith),
                ),
                λ e. n 3 (lit< tt) (omega arith),
              ),
              λ e. n 2 (lit< tt) (omega arith),
            ),
            λ e. n 1 (lit< tt) (omega arith),
          ),
          λ e. n 0
              (lit< tt) (omega arith),
        )))

-- ---- how many octets stand before control characters alone

pub before_is : (j : ℕ) → j < 8 → (c0 c1 : ℕ) → c0 ≤ 15 → c1 ≤ 15 → c0 + 16 * c1 + 2 ^ j ≡ 256
    → 0x01f2fff3fffffff4 / 2 ^ (4 * c0) % 16 + 0x01f2fff3fffffff4 / 2 ^ (4 * c1) % 16 ≡ j
before_is =
    eight (λ (j : ℕ). (c0 c1 : ℕ) → c0 ≤ 15 → c1 ≤ 15 → c0 + 16 * c1 + 2 ^ j ≡ 256 → numbers c0 c1 ≡ j)
    (λ c0 c1 u w m. by 15 15 c0 c1 (omega arith) (omega arith)) (λ c0 c1 u w m. by 14 15 c0 c1 (omega arith) (omega arith))
    (λ c0 c1 u w m. by 12 15 c0 c1 (omega arith) (omega arith)) (λ c0 c1 u w m. by 8 15 c0 c1 (omega arith) (omega arith))
    (λ c0 c1 u w m. by 0 15 c0 c1 (omega arith) (omega arith)) (λ c0 c1 u w m. by 0 14 c0 c1 (omega arith) (omega arith))
    (λ c0 c1 u w m. by 0 12 c0 c1 (omega arith) (omega arith)) (λ c0 c1 u w m. by 0 8 c0 c1 (omega arith) (omega arith))
  where
    numbers : ℕ → ℕ → ℕ
    numbers x y = 0x01f2fff3fffffff4 / 2 ^ (4 * x) % 16 + 0x01f2fff3fffffff4 / 2 ^ (4 * y) % 16

    by : (x y c0 c1 : ℕ) → c0 ≡ x → c1 ≡ y → numbers c0 c1 ≡ numbers x y
    by x y c0 c1 a b = ap₂ numbers a b

pub one_up : (k : ℕ) → k < 8 → (1 * 2 ^ k % 2 ^ 64 ≡ 2 ^ k) × (2 ^ k ≤ 128)
one_up =
    eight (λ (k : ℕ). (1 * 2 ^ k % 2 ^ 64 ≡ 2 ^ k) × (2 ^ k ≤ 128))
    (refl, omega arith) (refl, omega arith) (refl, omega arith) (refl, omega arith) (refl, omega arith) (refl, omega arith) (refl, omega arith) (refl, omega arith)

pub one_more_lem : (m n j : ℕ) → j < 8 → n ≡ j → m + 2 ^ j ≡ 256 → m + 1 * 2 ^ n % 2 ^ 64 ≡ 256
one_more_lem m n j h e q = ap (λ (k : ℕ). m + 1 * 2 ^ k % 2 ^ 64) e ∙ ap (λ (k : ℕ). m + k) (one_up j h).0 ∙ q

pub none_before : (m k : ℕ) → k ≡ 0 → m + 2 ^ k ≡ 256 → m ≡ 255
none_before m k e q = let z : m + 2 ^ 0 ≡ 256 = subst (λ (n : ℕ). m + 2 ^ n ≡ 256) e q in omega arith

-- what comes after k octets, taken away
pub end_le : (k : ℕ) → k < 8 → (lanes : ℕ) → lanes / 2 ^ (8 * k) ≡ end * 2 ^ (8 * k) % 2 ^ 64 / 2 ^ (8 * k) → end * 2 ^ (8 * k) % 2 ^ 64 ≤ lanes
end_le =
    eight (λ (k : ℕ). (lanes : ℕ) → lanes / 2 ^ (8 * k) ≡ end * 2 ^ (8 * k) % 2 ^ 64 / 2 ^ (8 * k) → end * 2 ^ (8 * k) % 2 ^ 64 ≤ lanes)
    (λ n e. omega arith) (λ n e. omega arith) (λ n e. omega arith) (λ n e. omega arith) (λ n e. omega arith) (λ n e. omega arith) (λ n e. omega arith) (λ n e. omega arith)

-- ---- what the functions answer

pub positive : (m : ℕ) → (m ≡ 0 → ⊥) → 0 < m
positive zero n = absurd (n refl)
positive (suc m) n = omega arith

module _ (ed : Edition) (c0 c1 lanes : ℕ) (l : lanes < 2 ^ 64) where
  pub data_known : c0 + 16 * c1 ≡ 0 → record { kind = D; header = 2; payload = lanes } ≡ coded_of (carrier ed (spread c0 c1 lanes))
  data_known m =
      let e : lanes ≡ lanes % 2 ^ 32 + lanes / 2 ^ 32 * 4294967296 = omega arith in
      ap (λ (n : ℕ). record { kind = D; header = 2; payload = n }) e ∙ data_coded ed c0 (lanes % 2 ^ 32) c1 (lanes / 2 ^ 32) (omega arith) (omega arith) m

  pub idle_known : c0 ≤ 15 → c1 ≤ 15 → c0 + 16 * c1 ≡ 255 → lanes ≡ 0x0707070707070707 → Coded-as ed C 0x1e c0 c1 lanes
  idle_known u w m e = idle_coded_lem ed c0 (lanes % 2 ^ 32) c1 (lanes / 2 ^ 32) u w (omega arith) m (omega arith)
