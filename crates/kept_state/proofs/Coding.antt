-- The numbers of carried bits and of a held block, as the code works them out. Assumes nothing.
use Prim.Native.Nat.{ℕ, ◌+◌, ◌-◌, ◌*◌, ◌/◌, ◌%◌, ◌^◌, ◌≤◌, ◌<◌}
use mathlib.Core.Path.{◌≡◌, refl, sym, ap, ap₂, ◌∙◌, subst}
use mathlib.Core.Bool.{Bool, true, false, cond}
use mathlib.Core.List.{List, [], ◌∷◌}
use native.Mathlib.Omega.{arith}
use native.Mathlib.Nat.{mod-lt}
use lib.Dec.{ltb}
use lib.Pow.{pow-add, pow_mono, pow_pos, shl_exact}
use lib.ListN.{get_or, get_or-eq_default}
use borrow.Author.Tests.{lt-ltb, le-ltb}
use Rattle.bits.specs.Bits.{bit, listed}
use Rattle.bits.proofs.Laws.{by_lt, bit_mod, bit_below, bit_above, bit_high, is_number}
use Rattle.bits.proofs.Lists.{listed_at, listed_same, length_listed}
use Rattle.block.specs.Block.{two_words, kind_in, good}
use Rattle.block.specs.declared.Edition.{Edition}
use Rattle.block.specs.declared.Class.{Class}
use Rattle.block.proofs.Sending as Sending
use Rattle.carrying.specs.Carrying.{word_of, carried_bits, Sound}
use Rattle.carrying.specs.declared.Carried.{Carried}
use Rattle.carrying.proofs.Laws.{length_carried}
use Rattle.receiving.specs.Machine.{Tested, header_of, payload_of}
use Rattle.receiving.specs.Loop.{tested_in}
use Rattle.receiving.specs.declared.Held.{Held}
use Rattle.kept_state.specs.declared.Kept.{Kept}
use Rattle.kept_state.specs.Meaning.{bits_in, carried_for, held_kind_number, held_kind_by, block_meant, kept_for, have_for}

-- ---- stray bits

-- one, shifted left in a word
pub one_at : (k : ℕ) → k < 64 → 1 * 2 ^ k % 2 ^ 64 ≡ 2 ^ k
one_at k l =
    let e : 1 * 2 ^ k % 2 ^ 64 ≡ 1 * 2 ^ k = shl_exact 1 k 64 (omega arith) (omega arith) in
    omega arith

-- it is not 0
pub one_pos : (k : ℕ) → k < 64 → 0 < 1 * 2 ^ k % 2 ^ 64
one_pos k l = omega (arith, one_at k l, pow_pos k)

module _ (c : Carried) where
  -- the bits that a state means
  abbrev meant : ℕ → ℕ
  meant i = cond (ltb i 2) (bit c.header i) (bit c.payload (i - 2))

  -- the masked numbers of fewer than two bits, and of more
  abbrev few_masked : ℕ → Carried
  few_masked h = record { count = c.count; header = h; payload = 0 }

  abbrev many_masked : ℕ → ℕ → Carried
  many_masked h p = record { count = c.count; header = h; payload = p }

  pub masked_few : c.count < 2 → (h : ℕ) → h ≡ c.header % (1 * 2 ^ c.count % 2 ^ 64)
      → Sound (few_masked h) × (carried_bits (few_masked h) ≡ bits_in c)
  unfolding carried_bits bits_in
  masked_few l h e =
      let n = c.count in
      let e' : h ≡ c.header % 2 ^ n = e ∙ ap (λ (m : ℕ). c.header % m) (one_at n (omega arith)) in
      let small : h < 2 ^ n = subst (λ (x : ℕ). x < 2 ^ n) (sym e') (mod-lt c.header (pow_pos n)) in
      let four : 2 ^ n ≤ 2 ^ 2 = pow_mono {j = 2} (omega arith) in
      let z : h + 4 * 0 ≡ h = omega arith in (
        record { few = omega arith; header = omega arith; fits = omega arith },
        listed_same n (bit (h + 4 * 0)) meant
            (λ i m.
            let t : i < 2 = omega arith in
            rw (lt-ltb i 2 t) (ap (λ (x : ℕ). bit x i) (z ∙ e') ∙ bit_mod c.header n i m)),
      )

  pub masked_many : 2 ≤ c.count → c.count < 66 → (p : ℕ) → p ≡ c.payload % (1 * 2 ^ (c.count - 2) % 2 ^ 64)
      → Sound (many_masked (c.header % 4) p) × (carried_bits (many_masked (c.header % 4) p) ≡ bits_in c)
  unfolding carried_bits bits_in
  masked_many lo hi p e =
      let n = c.count in
      let h = c.header % 4 in
      let e' : p ≡ c.payload % 2 ^ (c.count - 2) = e ∙ ap (λ (m : ℕ). c.payload % m) (one_at (c.count - 2) (omega arith)) in
      let small : p < 2 ^ (c.count - 2) = subst (λ (x : ℕ). x < 2 ^ (c.count - 2)) (sym e') (mod-lt c.payload (pow_pos (c.count - 2))) in
      let n-is : c.count ≡ c.count - 2 + 2 = omega arith in
      let pw : 2 ^ c.count ≡ 2 ^ (c.count - 2) * 4 = ap (λ (k : ℕ). 2 ^ k) n-is ∙ pow-add 2 (c.count - 2) 2 in
      let w : c.header % 4 + 4 * p ≡ p * 2 ^ 2 + c.header % 4 = omega arith in
      let below : c.header % 4 < 4 = omega arith in (
        record { few = hi; header = below; fits = omega arith },
        listed_same n (bit (h + 4 * p)) meant
            (λ i m.
            by_lt i 2
            (λ t. rw (lt-ltb i 2 t) (ap (λ (x : ℕ). bit x i) w ∙ bit_below p 2 h i t ∙ bit_mod c.header 2 i t))
            (λ t.
            let i-is : i ≡ 2 + (i - 2) = omega arith in
            rw (le-ltb i 2 t)
            (ap₂ bit w i-is ∙ bit_above p 2 h (i - 2) below ∙ ap (λ (x : ℕ). bit x (i - 2)) e' ∙ bit_mod c.payload (c.count - 2) (i - 2) (omega arith)))),
      )

-- ---- the carried bits of a receiver, in a state

module _ (c : Carried) (s : Sound c) where
  -- each bit of the list
  bit_of : (i : ℕ) → bit (word_of c) i ≡ get_or (carried_bits c) i 0
  unfolding carried_bits
  bit_of i =
      by_lt i c.count
      (λ m. sym (listed_at c.count (bit (word_of c)) i m))
      (λ m.
      bit_high (word_of c) c.count i s.fits m
      ∙ sym (get_or-eq_default (listed c.count (bit (word_of c))) 0 {n = i} (omega (arith, length_listed c.count (bit (word_of c))))))

  -- the two words
  word_is : word_of c ≡ c.payload * 2 ^ 2 + c.header
  word_is = omega arith

  header_is : c.header ≡ header_of (carried_bits c)
  header_is =
      is_number 2 c.header (λ i. get_or (carried_bits c) i 0) s.header
      (λ i l. sym (bit_below c.payload 2 c.header i l) ∙ ap (λ (x : ℕ). bit x i) (sym word_is) ∙ bit_of i)

  payload_is : c.payload ≡ payload_of (carried_bits c)
  payload_is =
      let m : 2 ^ c.count ≤ 2 ^ 66 = pow_mono {j = 66} (omega (arith, s.few)) in
      is_number 64 c.payload (λ i. get_or (carried_bits c) (2 + i) 0) (omega (arith, s.fits))
      (λ i l. sym (bit_above c.payload 2 c.header i s.header) ∙ ap (λ (x : ℕ). bit x (2 + i)) (sym word_is) ∙ bit_of (2 + i))

  -- are those of the list
  pub carried_is : (bits : List ℕ) → carried_bits c ≡ bits → c ≡ carried_for bits
  carried_is bits e =
      let k = sym (length_carried c) in
      let h = header_is in
      let p = payload_is in
      let q : c ≡ carried_for (carried_bits c) = λ i. record { count = k i; header = h i; payload = p i } in
      q ∙ ap carried_for e

-- ---- the held block

-- lanes above their 32 bits are none
pub lanes_cut : (a n b m : ℕ) → two_words a (n % 2 ^ 32) b (m % 2 ^ 32) ≡ two_words a n b m
lanes_cut a n b m =
    Sending.ten refl (omega arith) (omega arith) (omega arith) (omega arith) refl (omega arith) (omega arith) (omega arith) (omega arith)

-- so the block is the one that the numbers mean
pub block_is : (ed : Edition) (k : Kept) (class : Class) → class ≡ good (held_kind_by ed k.kind)
    → ◌≡◌ {A = Tested}
    (record { on = k.on; slipped = false; class = class; vector = two_words (k.first % 2 ^ 8) (k.first / 2 ^ 8 % 2 ^ 32) (k.second % 2 ^ 8) (k.second / 2 ^ 8 % 2 ^ 32) })
    (block_meant ed k)
block_is ed k class e =
    ap₂ (λ (z : Class) (v : List ℕ). record { on = k.on; slipped = false; class = z; vector = v }) e
    (lanes_cut (k.first % 2 ^ 8) (k.first / 2 ^ 8) (k.second % 2 ^ 8) (k.second / 2 ^ 8))

-- bytes of a number, one above the other
five_sum : (c d x y z p q r s : ℕ) → d ≡ p + 2 ^ 8 * x → x ≡ q + 2 ^ 8 * y → y ≡ r + 2 ^ 8 * z → z ≡ s
    → c + 256 * d ≡ c + 2 ^ 8 * p + 2 ^ 16 * q + 2 ^ 24 * r + 2 ^ 32 * s
five_sum c d x y z p q r s e f g h = omega arith

-- a word as one number
five_is : (c d : ℕ) → d < 2 ^ 32 → c + 256 * d ≡ c + 2 ^ 8 * (d % 2 ^ 8) + 2 ^ 16 * (d / 2 ^ 8 % 2 ^ 8) + 2 ^ 24 * (d / 2 ^ 16 % 2 ^ 8) + 2 ^ 32 * (d / 2 ^ 24 % 2 ^ 8)
five_is c d l =
    five_sum c d (d / 2 ^ 8) (d / 2 ^ 16) (d / 2 ^ 24) (d % 2 ^ 8) (d / 2 ^ 8 % 2 ^ 8) (d / 2 ^ 16 % 2 ^ 8) (d / 2 ^ 24 % 2 ^ 8)
    (omega arith) (omega arith) (omega arith) (omega arith)

-- the numbers of a block
pub kept_is : (have : Bool) (h : Held) (k a b x y : ℕ) → have ≡ true → k ≡ held_kind_number (kind_in h.class)
    → a ≡ h.vector.c0 → b ≡ h.vector.d0 → b < 2 ^ 32 → x ≡ h.vector.c1 → y ≡ h.vector.d1 → y < 2 ^ 32
    → record { on = h.on; kind = k; first = a + 256 * b; second = x + 256 * y } ≡ kept_for (cond have (tested_in h ∷ []) [])
unfolding kept_for tested_in
kept_is have h k a b x y eh ek ea eb lb ex ey ly =
    let f = five_is a b lb ∙ ap₂ (λ (u v : ℕ). u + 2 ^ 8 * (v % 2 ^ 8) + 2 ^ 16 * (v / 2 ^ 8 % 2 ^ 8) + 2 ^ 24 * (v / 2 ^ 16 % 2 ^ 8) + 2 ^ 32 * (v / 2 ^ 24 % 2 ^ 8)) ea eb in
    let g = five_is x y ly ∙ ap₂ (λ (u v : ℕ). u + 2 ^ 8 * (v % 2 ^ 8) + 2 ^ 16 * (v / 2 ^ 8 % 2 ^ 8) + 2 ^ 24 * (v / 2 ^ 16 % 2 ^ 8) + 2 ^ 32 * (v / 2 ^ 24 % 2 ^ 8)) ex ey in
    rw eh (λ i. record { on = h.on; kind = ek i; first = f i; second = g i })

-- and of none
pub none_is : (have : Bool) (h : Held) → have ≡ false → record { on = false; kind = 0; first = 0; second = 0 } ≡ kept_for (cond have (tested_in h ∷ []) [])
unfolding kept_for
none_is have h e = rw e

-- whether one is held
pub have_is : (have : Bool) (h : Held) → have ≡ have_for (cond have (tested_in h ∷ []) [])
have_is true h = refl
have_is false h = refl
