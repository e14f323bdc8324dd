-- The bits of the line up to its end, and zeros past it. Assumes nothing.
use mathlib.Core.Path.{◌≡◌, refl, sym, ap, ap₂, ◌∙◌, subst}
use mathlib.Core.List.{List, [], ◌∷◌, ◌++◌}
use Rattle.std.proofs.lemmas.List.{get_or-take, get_or-drop, get_or_append_left, get_or_push, length_push, length-take}
use Prim.Native.Nat.{ℕ, zero, suc, ◌+◌, ◌-◌, ◌*◌, ◌/◌, ◌%◌, ◌^◌, ◌≤◌, ◌<◌}
use native.Mathlib.Nat.{add-zero, add-suc}
use native.Mathlib.Omega.{arith}
use lib.ListN.{length, get_or, take, drop, length-drop}
use lib.Pow.{shr_le}
use Rattle.bits.specs.Bits.{bit, number, line_bit}
use Rattle.bits.proofs.Laws.{by_lt, bit_shr, bit_high, is_number, number_lt, number_same, number_add, bit_number}
use Rattle.bits.proofs.Lists.{stream_end, line_bit_lt, line_bit_is}

-- bits that are all 0 above the lowest k
pub number_zeros : (k j : ℕ) (f : ℕ → ℕ) → ((i : ℕ) → k ≤ i → f i ≡ 0) → number (k + j) f ≡ number k f
unfolding number
number_zeros k zero f h = ap (λ (n : ℕ). number n f) (add-zero k)
number_zeros k (suc j) f h =
    ap (λ (n : ℕ). number n f) (add-suc k j)
    ∙ ap₂ (λ (x y : ℕ). x + y * 2 ^ (k + j)) (number_zeros k j f h) (h (k + j) (omega arith))
    ∙ omega arith

module _ (line : List ℕ) where
  -- past its end the line has zeros
  pub bit_past : (n : ℕ) → 8 * length line ≤ n → line_bit line n ≡ 0
  unfolding line_bit
  bit_past n l = stream_end 8 line n (omega arith) l

  -- the 64 bits from byte i on
  abbrev pub bytes_from : ℕ → ℕ
  bytes_from i = number 64 (λ j. line_bit line (8 * i + j))

  -- after the last byte
  pub tail_none : (i : ℕ) → i ≡ length line → 0 ≡ bytes_from i
  unfolding number
  tail_none i e = sym (number_zeros 0 64 (λ j. line_bit line (8 * i + j)) (λ j l. bit_past (8 * i + j) (omega arith)))

  -- at most seven bytes, those from byte i on
  module _ (i w : ℕ) (few : length line ≤ i + 7) (rest : w ≡ bytes_from i) where
    -- they have 56 bits
    rest_is : w ≡ number 56 (λ j. line_bit line (8 * i + j))
    rest_is = rest ∙ number_zeros 56 8 (λ j. line_bit line (8 * i + j)) (λ j l. bit_past (8 * i + j) (omega arith))

    -- so there is room for one more
    pub tail_lt : w < 2 ^ 56
    tail_lt = subst (λ (n : ℕ). n < 2 ^ 56) (sym rest_is) (number_lt 56 _ (λ j l. line_bit_lt line (8 * i + j)))

    -- with the byte before them
    pub tail_more : (x : ℕ) → 0 < i → x ≡ get_or line (i - 1) 0 → x < 256 → w * 256 + x ≡ bytes_from (i - 1)
    tail_more x some byte small =
        let f : ℕ → ℕ = λ j. line_bit line (8 * (i - 1) + j) in
        let e : (j : ℕ) → 8 * i + j ≡ 8 * (i - 1) + (8 + j) = λ j. omega arith in
        let own : x ≡ number 8 f = is_number 8 x f small (λ j l. ap (λ (n : ℕ). bit n j) byte ∙ sym (line_bit_is line (8 * (i - 1) + j) (i - 1) j refl l)) in
        let above : w ≡ number 56 (λ j. f (8 + j)) = rest_is ∙ number_same 56 _ _ (λ j l. ap (line_bit line) (e j)) in
        omega (arith, number_add 8 56 f)

  -- from any bit of them on
  pub tail_from : (pos w : ℕ) → 8 * length line < pos + 64 → w ≡ bytes_from (pos / 8) → w / 2 ^ (pos % 8) ≡ number 64 (λ j. line_bit line (pos + j))
  tail_from pos w near e =
      let f : ℕ → ℕ = λ j. line_bit line (8 * (pos / 8) + j) in
      let w-lt : w < 2 ^ 64 = subst (λ (n : ℕ). n < 2 ^ 64) (sym e) (number_lt 64 f (λ j l. line_bit_lt line (8 * (pos / 8) + j))) in
      is_number 64 (w / 2 ^ (pos % 8)) (λ j. line_bit line (pos + j)) (omega (arith, shr_le w (pos % 8), w-lt))
      (λ j l.
      let g : 8 * (pos / 8) + (pos % 8 + j) ≡ pos + j = omega arith in
      bit_shr w (pos % 8) j
      ∙ by_lt (pos % 8 + j) 64
      (λ m. ap (λ (n : ℕ). bit n (pos % 8 + j)) e ∙ bit_number 64 f (λ j l. line_bit_lt line (8 * (pos / 8) + j)) (pos % 8 + j) m ∙ ap (line_bit line) g)
      (λ m. bit_high w 64 (pos % 8 + j) w-lt m ∙ sym (bit_past (pos + j) (omega arith))))

-- How far the last bytes of the line are read, from its end down to byte at: those left stand as they are there, and the word holds the others.
pub record TailSofar (line : List ℕ) (at : ℕ) (left : List ℕ) (word : ℕ) : Type 0 where
  pub inside : at + length left ≤ length line
  pub same : (i : ℕ) → i < length left → get_or left i 0 ≡ get_or line (at + i) 0
  pub holds : word ≡ bytes_from line (at + length left)

module _ (line : List ℕ) (at : ℕ) where
  -- none is read
  pub first : (left : List ℕ) → left ≡ take (length line - at) (drop at line) → at ≤ length line → TailSofar line at left 0
  first left e l =
      let n : length left ≡ length line - at = omega (arith, ap length e, length-take (length line - at) (drop at line), length-drop at line) in
      record {
        inside = omega arith;
        same = λ i m. ap (λ (x : List ℕ). get_or x i 0) e ∙ get_or-take (length line - at) (drop at line) i 0 (omega arith) ∙ get_or-drop at line i 0;
        holds = tail_none line (at + length left) (omega arith);
      }

  module _ (left rest : List ℕ) (w x : ℕ) (few : length line ≤ at + 8) (so : TailSofar line at left w) (last : left ≡ rest ++ x ∷ []) where
    count : length left ≡ length rest + 1
    count = ap length last ∙ length_push rest x

    -- it is the line's byte there
    byte_is : x ≡ get_or line (at + length left - 1) 0
    byte_is =
        let n : at + length left - 1 ≡ at + length rest = omega (arith, count) in
        sym (ap (λ (i : ℕ). get_or line i 0) n ∙ sym (so.same (length rest) (omega (arith, count)))
        ∙ ap (λ (l : List ℕ). get_or l (length rest) 0) last ∙ get_or_push rest x 0 (length rest) refl)

    -- there is room for it
    pub fits : ((i : ℕ) → get_or line i 0 < 256) → w * 256 + x < 2 ^ 64
    fits small = omega (arith, tail_lt line (at + length left) w (omega (arith, count)) so.holds, byte_is, small (at + length left - 1))

    -- the last of those left is read
    pub turn : ((i : ℕ) → get_or line i 0 < 256) → TailSofar line at rest (w * 256 + x)
    turn small =
        let n : at + length left - 1 ≡ at + length rest = omega (arith, count) in
        record {
          inside = omega (arith, count, so.inside);
          same = λ i m. sym (ap (λ (l : List ℕ). get_or l i 0) last ∙ get_or_append_left rest (x ∷ []) 0 i m) ∙ so.same i (omega (arith, count));
          holds = tail_more line (at + length left) w (omega (arith, count)) so.holds x (omega (arith, count)) byte_is (omega (arith, byte_is, small (at + length left - 1)))
              ∙ ap (bytes_from line) n;
        }

  -- none is left
  pub done : (left : List ℕ) (w : ℕ) → length left ≡ 0 → TailSofar line at left w → w ≡ bytes_from line at
  done left w e so = let n : at + length left ≡ at = omega arith in so.holds ∙ ap (bytes_from line) n
