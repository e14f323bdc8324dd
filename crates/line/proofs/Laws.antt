-- Bytes of the line as words, and words as bytes. Assumes nothing.
use mathlib.Core.Path.{◌≡◌, refl, sym, ap, ap₂, ◌∙◌, subst}
use mathlib.Core.List.{List, [], ◌∷◌, ◌++◌, append_assoc}
use Prim.Native.Nat.{ℕ, zero, suc, ◌+◌, ◌-◌, ◌*◌, ◌/◌, ◌%◌, ◌^◌, ◌≤◌, ◌<◌, max}
use native.Mathlib.Nat.{add_comm, add_assoc, zero-add, add-zero, mul-le-mul_right, max-zero, zero-max, mod-lt, div-one}
use native.Mathlib.Omega.{arith}
use native.Mathlib.Numerals.{add-one}
use lib.ListN.{length, get_or, take, drop, set, length-append, length-drop, get_or-eq_default}
use lib.Seq.{length-take-le, take_at, drop_at, drop-drop, set_split, append_snoc}
use lib.Pow.{pow-add, pow_pos, shr_le}
use Rattle.std.specs.Int.{sum_through, byte_worth, bytes_low_first}
use Rattle.std.proofs.lemmas.List.{get_or-take, get_or-drop, length-take}
use lib.Bits.{bit_or, or_lt}
use Rattle.bits.specs.Bits.{bit, number, line_bit, stream_bit, cut}
use Rattle.bits.proofs.Laws.{by_lt, bit_above, bit_below, is_number, bit_number, number_lt, number_same, bit_shr, bit_high, bit-or, bit_mod, shifted_low, shifted_high, stream_head, stream_tail, cut_same}
use Rattle.bits.proofs.Lists.{line_bit_lt, line_bit_is, line_bit_part, cut_add}

-- ---- reading
-- the k bytes of s from at on as one number, the lowest byte first
unfoldable pub bytes_at : List ℕ → ℕ → ℕ → ℕ
bytes_at s at zero = 0
bytes_at s at (suc k) = bytes_at s at k + get_or s (at + k) 0 * 2 ^ (8 * k)

module _ (s : List ℕ) (sb : (i : ℕ) → get_or s i 0 < 256) (at : ℕ) where
  -- k bytes have 8 k bits
  pub bytes_at_lt : (k : ℕ) → bytes_at s at k < 2 ^ (8 * k)
  unfolding bytes_at
  bytes_at_lt zero = omega arith
  bytes_at_lt (suc k) =
      let e : 8 + 8 * k ≡ 8 * suc k = omega arith in
      let p : 2 ^ (8 * suc k) ≡ 256 * 2 ^ (8 * k) = ap (λ (x : ℕ). 2 ^ x) (sym e) ∙ pow-add 2 8 (8 * k) in
      let x : get_or s (at + k) 0 < 256 = sb (at + k) in
      let m : get_or s (at + k) 0 * 2 ^ (8 * k) ≤ 255 * 2 ^ (8 * k) = mul-le-mul_right (2 ^ (8 * k)) (omega arith) in
      omega (arith, bytes_at_lt k, p)

  -- they are the line bits from the first byte on
  pub bit_bytes_at : (k i : ℕ) → i < 8 * k → bit (bytes_at s at k) i ≡ line_bit s (8 * at + i)
  unfolding bytes_at
  bit_bytes_at zero i l = absurd (omega arith)
  bit_bytes_at (suc k) i l =
      ap (λ (z : ℕ). bit z i) (add_comm (bytes_at s at k) (get_or s (at + k) 0 * 2 ^ (8 * k)))
      ∙ by_lt i (8 * k) (λ m. bit_below (get_or s (at + k) 0) (8 * k) (bytes_at s at k) i m ∙ bit_bytes_at k i m)
      (λ m.
      let e : i ≡ 8 * k + (i - 8 * k) = omega arith in
      ap (bit (get_or s (at + k) 0 * 2 ^ (8 * k) + bytes_at s at k)) e
      ∙ bit_above (get_or s (at + k) 0) (8 * k) (bytes_at s at k) (i - 8 * k) (bytes_at_lt k)
      ∙ sym (line_bit_is s (8 * at + i) (at + k) (i - 8 * k) (omega arith) (omega arith)))

  -- so the number is that of these line bits
  pub bytes_at_number : (k : ℕ) → bytes_at s at k ≡ number (8 * k) (λ i. line_bit s (8 * at + i))
  bytes_at_number k = is_number (8 * k) (bytes_at s at k) (λ i. line_bit s (8 * at + i)) (bytes_at_lt k) (bit_bytes_at k)

  two_bytes : get_or s at 0 + get_or s (at + 1) 0 * 256 ≡ bytes_at s at 2
  unfolding bytes_at
  two_bytes = omega (arith, ap (λ (i : ℕ). get_or s i 0) (add-zero at))

  -- two bits that start anywhere in the first of two bytes
  pub header_bits : (pos x y : ℕ) → pos / 8 ≡ at → x ≡ get_or s at 0 → y ≡ get_or s (at + 1) 0
      → (x + y * 256) / 2 ^ (pos % 8) % 4 ≡ number 2 (λ i. line_bit s (pos + i))
  header_bits pos x y e p q =
      let v = bytes_at s at 2 in
      ap (λ (n : ℕ). n / 2 ^ (pos % 8) % 4) (ap₂ (λ (i j : ℕ). i + j * 256) p q ∙ two_bytes)
      ∙ is_number 2 (v / 2 ^ (pos % 8) % 4) (λ i. line_bit s (pos + i)) (mod-lt (v / 2 ^ (pos % 8)) (pow_pos 2))
      (λ i l.
      let f : 8 * at + (pos % 8 + i) ≡ pos + i = omega arith in
      bit_mod (v / 2 ^ (pos % 8)) 2 i l ∙ bit_shr v (pos % 8) i ∙ bit_bytes_at 2 (pos % 8 + i) (omega arith) ∙ ap (line_bit s) f)

byte_power : (k : ℕ) → 256 ^ k ≡ 2 ^ (8 * k)
byte_power zero = refl
byte_power (suc k) =
    let e : k + 1 ≡ suc k = omega arith in
    let f : 8 * k + 8 ≡ 8 * suc k = omega arith in
    sym (ap (λ (n : ℕ). 256 ^ n) e) ∙ pow-add 256 k 1 ∙ ap (λ (x : ℕ). x * 256) (byte_power k) ∙ sym (pow-add 2 (8 * k) 8) ∙ ap (λ (n : ℕ). 2 ^ n) f

-- the library's `from_le_bytes` of k + 1 bytes
from_le : (bytes : List ℕ) (k : ℕ) → sum_through (λ i. byte_worth i (get_or bytes i 0)) k ≡ bytes_at bytes 0 (suc k)
unfolding bytes_at
from_le bytes zero = omega arith
from_le bytes (suc k) =
    ap₂ (λ (x y : ℕ). x + get_or bytes (suc k) 0 * y) (from_le bytes k) (byte_power (suc k))
    ∙ ap (λ (i : ℕ). bytes_at bytes 0 (suc k) + get_or bytes i 0 * 2 ^ (8 * suc k)) (sym (zero-add (suc k)))

-- a part's bytes fit where all do
part_fits : (s : List ℕ) → ((i : ℕ) → get_or s i 0 < 256) → (n at i : ℕ) → get_or (take n (drop at s)) i 0 < 256
part_fits s sb n at i =
    by_lt i n
    (λ l. subst (λ (x : ℕ). x < 256) (sym (get_or-take n (drop at s) i 0 l ∙ get_or-drop at s i 0)) (sb (at + i)))
    (λ l. omega (arith, get_or-eq_default (take n (drop at s)) 0 {n = i} (omega (arith, length-take n (drop at s)))))

-- .. which are the bytes of s from at on: a number of that many bits
pub loaded : (s : List ℕ) → ((i : ℕ) → get_or s i 0 < 256) → (at n k : ℕ) (bytes : List ℕ) → n ≡ suc k → bytes ≡ take n (drop at s)
    → sum_through (λ i. byte_worth i (get_or bytes i 0)) k ≡ number (8 * suc k) (λ i. line_bit s (8 * at + i))
loaded s sb at n k bytes e p =
    let f : (i : ℕ) → get_or bytes i 0 < 256 = λ i. subst (λ (l : List ℕ). get_or l i 0 < 256) (sym p) (part_fits s sb n at i) in
    from_le bytes k ∙ bytes_at_number bytes f 0 (suc k)
    ∙ number_same (8 * suc k) (λ i. line_bit bytes (8 * 0 + i)) (λ i. line_bit s (8 * at + i))
    (λ i l. ap (λ (x : List ℕ). line_bit x (8 * 0 + i)) p ∙ ap (line_bit (take n (drop at s))) (zero-add i) ∙ line_bit_part s n at i (omega arith))

-- eight bytes and the byte after them, joined at any place
pub join : (s : List ℕ) (pos at sh lo hi : ℕ) → pos ≡ 8 * at + sh → 0 < sh → sh < 8
    → lo ≡ number 64 (λ i. line_bit s (8 * at + i)) → hi ≡ get_or s (at + 8) 0 → hi < 256
    → bit_or (lo / 2 ^ sh) (hi * 2 ^ (64 - sh) % 2 ^ 64) ≡ number 64 (λ i. line_bit s (pos + i))
join s pos at sh lo hi e z l elo ehi hb = is_number 64 _ (λ i. line_bit s (pos + i)) bound bits
  where
    low : (i : ℕ) → i < 64 → bit lo i ≡ line_bit s (8 * at + i)
    low i m = ap (λ (x : ℕ). bit x i) elo ∙ bit_number 64 (λ i. line_bit s (8 * at + i)) (λ j q. line_bit_lt s (8 * at + j)) i m

    lo_lt : lo < 2 ^ 64
    lo_lt = subst (λ (x : ℕ). x < 2 ^ 64) (sym elo) (number_lt 64 (λ i. line_bit s (8 * at + i)) (λ j q. line_bit_lt s (8 * at + j)))

    bound : bit_or (lo / 2 ^ sh) (hi * 2 ^ (64 - sh) % 2 ^ 64) < 2 ^ 64
    bound = or_lt 64 (lo / 2 ^ sh) (hi * 2 ^ (64 - sh) % 2 ^ 64) (omega (arith, shr_le lo sh, lo_lt)) (mod-lt (hi * 2 ^ (64 - sh)) (pow_pos 64))

    bits : (n : ℕ) → n < 64 → bit (bit_or (lo / 2 ^ sh) (hi * 2 ^ (64 - sh) % 2 ^ 64)) n ≡ line_bit s (pos + n)
    bits n m =
        bit-or (lo / 2 ^ sh) (hi * 2 ^ (64 - sh) % 2 ^ 64) n
        ∙ by_lt n (64 - sh)
        (λ q.
        let f : 8 * at + (sh + n) ≡ pos + n = omega arith in
        ap₂ max (bit_shr lo sh n ∙ low (sh + n) (omega arith) ∙ ap (line_bit s) f) (shifted_low hi (64 - sh) n m q)
        ∙ max-zero (line_bit s (pos + n)))
        (λ q.
        ap₂ max (bit_shr lo sh n ∙ bit_high lo 64 (sh + n) lo_lt (omega arith))
        (shifted_high hi (64 - sh) n m q ∙ ap (λ (x : ℕ). bit x (n - (64 - sh))) ehi
        ∙ sym (line_bit_is s (pos + n) (at + 8) (n - (64 - sh)) (omega arith) (omega arith)))
        ∙ zero-max (line_bit s (pos + n)))

-- ---- writing: the list l with vs put at at
abbrev pub put : ℕ → List ℕ → List ℕ → List ℕ
put at vs l = take at l ++ vs ++ drop (at + length vs) l

-- the list keeps its length
pub length_put : (at : ℕ) (vs l : List ℕ) → at + length vs ≤ length l → length (put at vs l) ≡ length l
length_put at vs l h =
    omega (
      arith,
      length-append (take at l ++ vs) (drop (at + length vs) l),
      length-append (take at l) vs,
      length-take-le at l (omega arith),
      length-drop (at + length vs) l,
    )

-- one run of values after another
pub put_put : (at : ℕ) (us vs l : List ℕ) → at + length us + length vs ≤ length l
    → put (at + length us) vs (put at us l) ≡ put at (us ++ vs) l
put_put at us vs l h =
    let k = at + length us in
    let e : length (take at l ++ us) ≡ k = omega (arith, length-append (take at l) us, length-take-le at l (omega arith)) in
    let t : take k (put at us l) ≡ take at l ++ us = take_at (take at l ++ us) (drop k l) k e in
    let d : drop (k + length vs) (put at us l) ≡ drop (k + length vs) l =
    sym (drop-drop (length vs) k (put at us l)) ∙ ap (drop (length vs)) (drop_at (take at l ++ us) (drop k l) k e) ∙ drop-drop (length vs) k l in
    let f : k + length vs ≡ at + length (us ++ vs) = omega (arith, length-append us vs) in
    ap₂ (λ (x y : List ℕ). x ++ vs ++ y) t d
    ∙ ap₂ (λ (x : List ℕ) (n : ℕ). x ++ drop n l) (append_assoc (take at l) us vs) f

-- the same, as the lists are before and after a store of vs
pub put_more : (at n k : ℕ) (us vs l l' m : List ℕ) → length us ≡ n → length vs ≡ k → at + n + k ≤ length l
    → l' ≡ put at us l → m ≡ take (at + n) l' ++ vs ++ drop (at + n + k) l' → m ≡ put at (us ++ vs) l
put_more at n k us vs l l' m p q h e f =
    f ∙ ap (λ (x : List ℕ). take (at + n) x ++ vs ++ drop (at + n + k) x) e
    ∙ ap₂ (λ (i j : ℕ). take (at + i) (put at us l) ++ vs ++ drop (at + i + j) (put at us l)) (sym p) (sym q)
    ∙ put_put at us vs l (omega arith)

set_put : (l : List ℕ) (i x : ℕ) → i < length l → set l i x ≡ take i l ++ (x ∷ []) ++ drop (i + 1) l
set_put l i x h =
    set_split l i x h ∙ ap (λ (n : ℕ). take i l ++ x ∷ drop n l) (sym (add-one i)) ∙ sym (append_snoc (take i l) x (drop (i + 1) l))

-- the room after four stores and a last byte
pub words_put : (at w x y z b : ℕ) (l l₁ l₂ l₃ l₄ : List ℕ) → at + 33 ≤ length l
    → l₁ ≡ take at l ++ cut 8 (bit w) 8 ++ drop (at + 8) l
    → l₂ ≡ take (at + 8) l₁ ++ cut 8 (bit x) 8 ++ drop (at + 8 + 8) l₁
    → l₃ ≡ take (at + 16) l₂ ++ cut 8 (bit y) 8 ++ drop (at + 16 + 8) l₂
    → l₄ ≡ take (at + 24) l₃ ++ cut 8 (bit z) 8 ++ drop (at + 24 + 8) l₃
    → set l₄ (at + 32) b ≡ take at l ++ (cut 8 (bit w) 8 ++ cut 8 (bit x) 8 ++ cut 8 (bit y) 8 ++ cut 8 (bit z) 8 ++ (b ∷ [])) ++ drop (at + 33) l
unfolding cut
words_put at w x y z b l l₁ l₂ l₃ l₄ h e₁ e₂ e₃ e₄ =
    let c₀ = cut 8 (bit w) 8 in
    let c₁ = cut 8 (bit x) 8 in
    let c₂ = cut 8 (bit y) 8 in
    let c₃ = cut 8 (bit z) 8 in
    let p₂ : l₂ ≡ put at (c₀ ++ c₁) l = put_more at 8 8 c₀ c₁ l l₁ l₂ refl refl (omega arith) e₁ e₂ in
    let p₃ : l₃ ≡ put at (c₀ ++ c₁ ++ c₂) l = put_more at 16 8 (c₀ ++ c₁) c₂ l l₂ l₃ refl refl (omega arith) p₂ e₃ in
    let p₄ : l₄ ≡ put at (c₀ ++ c₁ ++ c₂ ++ c₃) l = put_more at 24 8 (c₀ ++ c₁ ++ c₂) c₃ l l₃ l₄ refl refl (omega arith) p₃ e₄ in
    let m : length l₄ ≡ length l = ap length p₄ ∙ length_put at (c₀ ++ c₁ ++ c₂ ++ c₃) l (omega arith) in
    put_more at 32 1 (c₀ ++ c₁ ++ c₂ ++ c₃) (b ∷ []) l l₄ (set l₄ (at + 32) b) refl refl (omega arith) p₄ (set_put l₄ (at + 32) b (omega arith))

-- ---- the bytes of a word
pub byte_is : (w j : ℕ) → number 8 (λ i. bit w (j + i)) ≡ w / 2 ^ j % 2 ^ 8
byte_is w j =
    sym (is_number 8 (w / 2 ^ j % 2 ^ 8) (λ i. bit w (j + i)) (mod-lt (w / 2 ^ j) (pow_pos 8)) (λ i l. bit_mod (w / 2 ^ j) 8 i l ∙ bit_shr w j i))

-- k bytes of w from bit j on
unfoldable pub bytes_from : ℕ → ℕ → ℕ → List ℕ
bytes_from w j zero = []
bytes_from w j (suc k) = w / 2 ^ j % 2 ^ 8 ∷ bytes_from w (j + 8) k

-- they are the bits of w from bit j on, cut
pub cut_bytes : (w j k : ℕ) → cut 8 (λ i. bit w (j + i)) k ≡ bytes_from w j k
unfolding cut bytes_from
cut_bytes w j zero = refl
cut_bytes w j (suc k) =
    ap₂ ◌∷◌ (byte_is w j)
    (cut_same 8 k (λ i. bit w (j + (8 + i))) (λ i. bit w (j + 8 + i)) (λ i l. ap (bit w) (sym (add_assoc j 8 i))) ∙ cut_bytes w (j + 8) k)

-- .. and from bit 0 on
pub cut_word : (w k : ℕ) → cut 8 (bit w) k ≡ bytes_from w 0 k
cut_word w k = cut_same 8 k (bit w) (λ i. bit w (0 + i)) (λ i l. ap (bit w) (sym (zero-add i))) ∙ cut_bytes w 0 k

-- the library's `to_le_bytes` gives them
pub to_le : (w : ℕ) → bytes_low_first 0 8 w ≡ cut 8 (bit w) 8
unfolding bytes_from
to_le w = ap (λ (x : ℕ). x % 256 ∷ bytes_from w 8 7) (sym (div-one w)) ∙ sym (cut_word w 8)

-- .. and the first four of them
pub to_le_half : (w : ℕ) → take 4 (bytes_low_first 0 8 w) ≡ cut 8 (bit w) 4
unfolding bytes_from
to_le_half w = ap (λ (x : ℕ). x % 256 ∷ bytes_from w 8 3) (sym (div-one w)) ∙ sym (cut_word w 4)

-- a part of the room with n bytes in its place
pub part_put : (room part bytes : List ℕ) (at n : ℕ) → part ≡ bytes → take at room ++ (part ++ drop (at + n - at) (drop at room)) ≡ take at room ++ bytes ++ drop (at + n) room
part_put room part bytes at n e =
    let f : at + n - at ≡ n = omega arith in
    let g : n + at ≡ at + n = omega arith in
    ap₂ (λ (x : List ℕ) (k : ℕ). take at room ++ (x ++ drop k (drop at room))) e f
    ∙ ap (λ (x : List ℕ). take at room ++ (bytes ++ x)) (drop-drop n at room)
    ∙ sym (append_assoc (take at room) bytes (drop (at + n) room))

-- ---- a block's 66 bits
-- bits 0 and 1 of a block are its header
pub header_bit : (h p i : ℕ) → h < 4 → i < 2 → bit (h + 4 * p) i ≡ bit h i
header_bit h p i hb l =
    let e : h + 4 * p ≡ p * 2 ^ 2 + h = omega arith in
    ap (λ (x : ℕ). bit x i) e ∙ bit_below p 2 h i l

-- bits 2 to 65 of a block are its payload
pub payload_bit_lem : (h p i : ℕ) → h < 4 → bit (h + 4 * p) (2 + i) ≡ bit p i
payload_bit_lem h p i hb =
    let e : h + 4 * p ≡ p * 2 ^ 2 + h = omega arith in
    ap (λ (x : ℕ). bit x (2 + i)) e ∙ bit_above p 2 h i hb

-- a block's header and payload out of its bits
pub header_number : (h p : ℕ) → h < 4 → number 2 (bit (h + 4 * p)) ≡ h
header_number h p hb = sym (is_number 2 h (bit (h + 4 * p)) hb (λ i l. sym (header_bit h p i hb l)))

-- .. and the payload
pub payload_number : (h p : ℕ) → h < 4 → p < 2 ^ 64 → number 64 (λ i. bit (h + 4 * p) (2 + i)) ≡ p
payload_number h p hb pb = sym (is_number 64 p (λ i. bit (h + 4 * p) (2 + i)) pb (λ i l. sym (payload_bit_lem h p i hb)))

-- the first 64 bits of a block
first_bits : (h q i : ℕ) → h < 4 → i < 64 → bit (bit_or h (q * 2 ^ 2 % 2 ^ 64)) i ≡ bit (h + 4 * q) i
first_bits h q i hb l =
    bit-or h (q * 2 ^ 2 % 2 ^ 64) i
    ∙ by_lt i 2
    (λ m. ap (max (bit h i)) (shifted_low q 2 i l m) ∙ max-zero (bit h i) ∙ sym (header_bit h q i hb m))
    (λ m.
    let e : 2 + (i - 2) ≡ i = omega arith in
    ap₂ max (bit_high h 2 i hb m) (shifted_high q 2 i l m) ∙ zero-max (bit q (i - 2))
    ∙ sym (payload_bit_lem h q (i - 2) hb) ∙ ap (bit (h + 4 * q)) e)

-- 64 bits that start with the last s of a block and go on with the next
seam_bits : (g p h q s i : ℕ) (rest : List ℕ) → g < 4 → p < 2 ^ 64 → h < 4 → 0 < s → s ≤ 62 → i < 64
    → bit (bit_or (bit_or (p / 2 ^ (64 - s)) (h * 2 ^ s % 2 ^ 64)) (q * 2 ^ (s + 2) % 2 ^ 64)) i
    ≡ stream_bit 66 ((g + 4 * p) ∷ (h + 4 * q) ∷ rest) (66 - s + i)
seam_bits g p h q s i rest gb pb hb z sl l =
    bit-or (bit_or (p / 2 ^ (64 - s)) (h * 2 ^ s % 2 ^ 64)) (q * 2 ^ (s + 2) % 2 ^ 64) i
    ∙ ap (λ (x : ℕ). max x (bit (q * 2 ^ (s + 2) % 2 ^ 64) i)) (bit-or (p / 2 ^ (64 - s)) (h * 2 ^ s % 2 ^ 64) i)
    ∙ by_lt i s old new
  where
    parts : ℕ → ℕ → ℕ → ℕ
    parts x y w = max (max x y) w

    left : bit (p / 2 ^ (64 - s)) i ≡ bit p (64 - s + i)
    left = bit_shr p (64 - s) i

    old : i < s → parts (bit (p / 2 ^ (64 - s)) i) (bit (h * 2 ^ s % 2 ^ 64) i) (bit (q * 2 ^ (s + 2) % 2 ^ 64) i)
        ≡ stream_bit 66 ((g + 4 * p) ∷ (h + 4 * q) ∷ rest) (66 - s + i)
    old m =
        let e : 66 - s + i ≡ 2 + (64 - s + i) = omega arith in
        let a : parts (bit (p / 2 ^ (64 - s)) i) (bit (h * 2 ^ s % 2 ^ 64) i) (bit (q * 2 ^ (s + 2) % 2 ^ 64) i) ≡ bit p (64 - s + i) =
        ap₂ (λ (x y : ℕ). parts x y (bit (q * 2 ^ (s + 2) % 2 ^ 64) i)) left (shifted_low h s i l m)
        ∙ ap (parts (bit p (64 - s + i)) 0) (shifted_low q (s + 2) i l (omega arith))
        ∙ max-zero (max (bit p (64 - s + i)) 0) ∙ max-zero (bit p (64 - s + i)) in
        a ∙ sym (payload_bit_lem g p (64 - s + i) gb) ∙ ap (bit (g + 4 * p)) (sym e)
        ∙ sym (stream_head 66 (g + 4 * p) ((h + 4 * q) ∷ rest) (66 - s + i) (omega arith))

    next : (j : ℕ) → 66 - s + i ≡ 66 + j → j < 66 → stream_bit 66 ((g + 4 * p) ∷ (h + 4 * q) ∷ rest) (66 - s + i) ≡ bit (h + 4 * q) j
    next j e m =
        ap (stream_bit 66 ((g + 4 * p) ∷ (h + 4 * q) ∷ rest)) e ∙ stream_tail 66 (g + 4 * p) ((h + 4 * q) ∷ rest) j (omega arith)
        ∙ stream_head 66 (h + 4 * q) rest j m

    gone : s ≤ i → bit (p / 2 ^ (64 - s)) i ≡ 0
    gone m = left ∙ bit_high p 64 (64 - s + i) pb (omega arith)

    new : s ≤ i → parts (bit (p / 2 ^ (64 - s)) i) (bit (h * 2 ^ s % 2 ^ 64) i) (bit (q * 2 ^ (s + 2) % 2 ^ 64) i)
        ≡ stream_bit 66 ((g + 4 * p) ∷ (h + 4 * q) ∷ rest) (66 - s + i)
    new m =
        by_lt i (s + 2)
        (λ k.
        ap₂ (λ (x y : ℕ). parts x y (bit (q * 2 ^ (s + 2) % 2 ^ 64) i)) (gone m) (shifted_high h s i l m)
        ∙ ap (parts 0 (bit h (i - s))) (shifted_low q (s + 2) i l k)
        ∙ max-zero (max 0 (bit h (i - s))) ∙ zero-max (bit h (i - s))
        ∙ sym (next (i - s) (omega arith) (omega arith) ∙ header_bit h q (i - s) hb (omega arith)))
        (λ k.
        let e : i - s ≡ 2 + (i - (s + 2)) = omega arith in
        ap₂ (λ (x y : ℕ). parts x y (bit (q * 2 ^ (s + 2) % 2 ^ 64) i)) (gone m)
        (shifted_high h s i l m ∙ bit_high h 2 (i - s) hb (omega arith))
        ∙ ap (parts 0 0) (shifted_high q (s + 2) i l k)
        ∙ zero-max (bit q (i - (s + 2)))
        ∙ sym (next (i - s) (omega arith) (omega arith) ∙ ap (bit (h + 4 * q)) e ∙ payload_bit_lem h q (i - (s + 2)) hb))

-- ---- four blocks as four words and a byte
module _ (ha pa hb pb hc pc hd pd : ℕ) (la : ha < 4) (lb : hb < 4) (lc : hc < 4) (ld : hd < 4)
    (fa : pa < 2 ^ 64) (fb : pb < 2 ^ 64) (fc : pc < 2 ^ 64) (fd : pd < 2 ^ 64) where
  -- the four blocks, as numbers of 66 bits
  abbrev pub blocks : List ℕ
  blocks = (ha + 4 * pa) ∷ (hb + 4 * pb) ∷ (hc + 4 * pc) ∷ (hd + 4 * pd) ∷ []

  -- the words, as they are worked out, each with the bits of its place
  abbrev pub word₀ : ℕ
  word₀ = bit_or ha (pa * 2 ^ 2 % 2 ^ 64)

  abbrev pub word₁ : ℕ
  word₁ = bit_or (bit_or (pa / 2 ^ 62) (hb * 2 ^ 2 % 2 ^ 64)) (pb * 2 ^ 4 % 2 ^ 64)

  abbrev pub word₂ : ℕ
  word₂ = bit_or (bit_or (pb / 2 ^ 60) (hc * 2 ^ 4 % 2 ^ 64)) (pc * 2 ^ 6 % 2 ^ 64)

  abbrev pub word₃ : ℕ
  word₃ = bit_or (bit_or (pc / 2 ^ 58) (hd * 2 ^ 6 % 2 ^ 64)) (pd * 2 ^ 8 % 2 ^ 64)

  -- a bit after the first block, and so on
  past : (x n m : ℕ) (xs : List ℕ) → n ≡ 66 + m → stream_bit 66 (x ∷ xs) n ≡ stream_bit 66 xs m
  past x n m xs e = ap (stream_bit 66 (x ∷ xs)) e ∙ stream_tail 66 x xs m (omega arith)

  bits₀ : (i : ℕ) → i < 64 → stream_bit 66 blocks i ≡ bit word₀ i
  bits₀ i l = stream_head 66 (ha + 4 * pa) _ i (omega arith) ∙ sym (first_bits ha pa i la l)

  bits₁ : (i : ℕ) → i < 64 → stream_bit 66 blocks (64 + i) ≡ bit word₁ i
  bits₁ i l = sym (seam_bits ha pa hb pb 2 i _ la fa lb (omega arith) (omega arith) l)

  bits₂ : (i : ℕ) → i < 64 → stream_bit 66 blocks (128 + i) ≡ bit word₂ i
  bits₂ i l = past _ (128 + i) (62 + i) _ (omega arith) ∙ sym (seam_bits hb pb hc pc 4 i _ lb fb lc (omega arith) (omega arith) l)

  bits₃ : (i : ℕ) → i < 64 → stream_bit 66 blocks (192 + i) ≡ bit word₃ i
  bits₃ i l =
      past _ (192 + i) (126 + i) _ (omega arith) ∙ past _ (126 + i) (60 + i) _ (omega arith)
      ∙ sym (seam_bits hc pc hd pd 6 i _ lc fc ld (omega arith) (omega arith) l)

  bits₄ : (i : ℕ) → i < 8 → bit (pd / 2 ^ 56) i ≡ stream_bit 66 blocks (256 + i)
  bits₄ i l =
      let e : 2 + (56 + i) ≡ 58 + i = omega arith in
      bit_shr pd 56 i ∙ sym (payload_bit_lem hd pd (56 + i) ld) ∙ ap (bit (hd + 4 * pd)) e
      ∙ sym
      (past _ (256 + i) (190 + i) _ (omega arith) ∙ past _ (190 + i) (124 + i) _ (omega arith) ∙ past _ (124 + i) (58 + i) _ (omega arith)
      ∙ stream_head 66 (hd + 4 * pd) [] (58 + i) (omega arith))

  bytes : (f g : ℕ → ℕ) → ((i : ℕ) → i < 64 → f i ≡ g i) → cut 8 f 8 ≡ cut 8 g 8
  bytes f g e = cut_same 8 8 f g e

  group_bytes : cut 8 (stream_bit 66 blocks) 33
      ≡ cut 8 (bit word₀) 8 ++ cut 8 (bit word₁) 8 ++ cut 8 (bit word₂) 8 ++ cut 8 (bit word₃) 8 ++ (pd / 2 ^ 56 ∷ [])
  unfolding cut
  group_bytes =
      let f = stream_bit 66 blocks in
      cut_add 8 32 1 f
      ∙ ap₂ (λ (x : List ℕ) (y : ℕ). x ++ (y ∷ []))
      (cut_add 8 24 8 f
      ∙ ap₂ ◌++◌
      (cut_add 8 16 8 f ∙ ap₂ ◌++◌ (cut_add 8 8 8 f ∙ ap₂ ◌++◌ (bytes _ _ bits₀) (bytes _ _ bits₁)) (bytes _ _ bits₂))
      (bytes _ _ bits₃))
      (sym (is_number 8 (pd / 2 ^ 56) (λ i. f (256 + i)) (omega arith) bits₄))

  -- the words and the byte in the room are the four blocks
  pub group_put : (at : ℕ) (l m : List ℕ)
      → m ≡ take at l ++ (cut 8 (bit word₀) 8 ++ cut 8 (bit word₁) 8 ++ cut 8 (bit word₂) 8 ++ cut 8 (bit word₃) 8 ++ (pd / 2 ^ 56 ∷ [])) ++ drop (at + 33) l
      → m ≡ take at l ++ cut 8 (stream_bit 66 blocks) 33 ++ drop (at + 33) l
  group_put at l m e = e ∙ ap (λ (v : List ℕ). take at l ++ v ++ drop (at + 33) l) (sym group_bytes)
