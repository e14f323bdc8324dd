-- The laws of bits. Assumes nothing.
use mathlib.Core.Path.{◌≡◌, refl, sym, ap, ap₂, ◌∙◌, subst}
use mathlib.Core.List.{List, [], ◌∷◌}
use mathlib.Core.Logic.{◌≢◌, ◌↔◌}
use Prim.Native.Nat.{ℕ, zero, suc, ◌+◌, ◌-◌, ◌*◌, ◌/◌, ◌%◌, ◌^◌, ◌≤◌, ◌<◌, min, max}
use native.Mathlib.Nat.{mod-mod, mod-eq_of_lt, add-zero, add-suc, add_comm, div-one, div-eq_of_lt, lt_of_lt_of_le, mul_comm, mul_assoc, add_assoc, add-mul, mul-add-mod_self_right, mul-le-mul_right, add-div_left, add-mod_left, mul-suc}
use native.Mathlib.Omega.{arith}
use native.Mathlib.Numerals.{add-one}
use native.Mathlib.Decide.{dec_lt}
use lib.ListN.{length, get_or}
use lib.Bits.{bit_and, bit_or, bit_xor, differ, xor_shr, xor_step, or_shr, or_step, and_shr, and_step, block_half, block_odd}
use lib.Pow.{pow_mono, pow-add, shr-shr, shl-shr, high, split}
use lib.Arith.{lt-one}
use Rattle.bits.specs.Bits.{bit, number, total, stream_bit, cut}

-- a bit is 0 or 1
pub bit_lt : (n i : ℕ) → bit n i < 2
unfolding bit
bit_lt n i = omega arith

-- what holds of 0 and of 1 holds of a bit
pub two {ℓ} : (P : ℕ → Type ℓ) → P 0 → P 1 → (n : ℕ) → n < 2 → P n
two P p q zero h = p
two P p q (suc zero) h = q
two P p q (suc (suc n)) h = absurd (omega arith)

-- by the order of two numbers
pub by_lt {ℓ} : {P : Type ℓ} (i k : ℕ) → (i < k → P) → (k ≤ i → P) → P
by_lt {P} i k f g = go (dec_lt i k)
  where
    go : Dec (i < k) → P
    go (yes m) = f m
    go (no m) = g (omega arith)

-- ---- shift right
pub bit_shr : (n k i : ℕ) → bit (n / 2 ^ k) i ≡ bit n (k + i)
unfolding bit
bit_shr n k i = ap (λ (x : ℕ). x % 2) (shr-shr n k i)

-- bit 0 is the remainder by 2
pub bit_zero : (n : ℕ) → bit n 0 ≡ n % 2
unfolding bit
bit_zero n = ap (λ (x : ℕ). x % 2) (div-one n)

-- bit i + 1 is bit i of the half
pub bit_suc : (n i : ℕ) → bit n (suc i) ≡ bit (n / 2) i
bit_suc n i = ap (bit n) (sym (omega arith)) ∙ sym (bit_shr n 1 i)

-- ---- past the number's own bits
pub bit_high : (n k i : ℕ) → n < 2 ^ k → k ≤ i → bit n i ≡ 0
unfolding bit
bit_high n k i h l = ap (λ (x : ℕ). x % 2) (div-eq_of_lt (lt_of_lt_of_le h (pow_mono l)))

-- 0 has no bit set
pub bit_none : (i : ℕ) → bit 0 i ≡ 0
bit_none i = bit_high 0 0 i (omega arith) (omega arith)

-- ---- a number in two parts: a above bit k, b below
pub bit_above : (a k b i : ℕ) → b < 2 ^ k → bit (a * 2 ^ k + b) (k + i) ≡ bit a i
bit_above a k b i h = sym (bit_shr (a * 2 ^ k + b) k i) ∙ ap (λ (x : ℕ). bit x i) (high a k h)

-- the bits below k are those of the lower part
pub bit_below : (a k b i : ℕ) → i < k → bit (a * 2 ^ k + b) i ≡ bit b i
bit_below a zero b i h = absurd (omega arith)
bit_below a (suc k) b zero h = bit_zero _ ∙ block_odd a k b ∙ sym (bit_zero b)
bit_below a (suc k) b (suc i) h =
    bit_suc _ i ∙ ap (λ (x : ℕ). bit x i) (block_half a k b) ∙ bit_below a k (b / 2) i (omega arith) ∙ sym (bit_suc b i)

-- ---- remainder
pub bit_mod : (n k i : ℕ) → i < k → bit (n % 2 ^ k) i ≡ bit n i
bit_mod n k i h = sym (bit_below (n / 2 ^ k) k (n % 2 ^ k) i h) ∙ ap (λ (x : ℕ). bit x i) (split n k)

-- ---- shift left
pub bit_shl : (a k i : ℕ) → bit (a * 2 ^ k) (k + i) ≡ bit a i
bit_shl a k i = sym (bit_shr (a * 2 ^ k) k i) ∙ ap (λ (x : ℕ). bit x i) (shl-shr a k)

-- the bits below the shift are 0
pub bit_shl_low : (a k i : ℕ) → i < k → bit (a * 2 ^ k) i ≡ 0
bit_shl_low a k i h = ap (λ (x : ℕ). bit x i) (sym (add-zero (a * 2 ^ k))) ∙ bit_below a k 0 i h ∙ bit_none i

-- bit n of v shifted left by k, in a word of 64 bits
pub shifted_low : (v k n : ℕ) → n < 64 → n < k → bit (v * 2 ^ k % 2 ^ 64) n ≡ 0
shifted_low v k n l m = bit_mod (v * 2 ^ k) 64 n l ∙ bit_shl_low v k n m

-- .. from the shift on, they are the bits of v
pub shifted_high : (v k n : ℕ) → n < 64 → k ≤ n → bit (v * 2 ^ k % 2 ^ 64) n ≡ bit v (n - k)
shifted_high v k n l m =
    let e : n ≡ k + (n - k) = omega arith in
    bit_mod (v * 2 ^ k) 64 n l ∙ ap (bit (v * 2 ^ k)) e ∙ bit_shl v k (n - k)

-- ---- the operations on two words
pub mod_sums : (x y : ℕ) → (x % 2 + y % 2) % 2 ≡ (x + y) % 2
mod_sums x y = omega arith

-- the same of three
pub mod_sums₃ : (x y z : ℕ) → (x % 2 + y % 2 + z % 2) % 2 ≡ (x + y + z) % 2
mod_sums₃ x y z =
    sym (mod_sums (x % 2 + y % 2) (z % 2)) ∙ ap₂ (λ (u v : ℕ). (u + v) % 2) (mod_sums x y) (mod-mod z 2) ∙ mod_sums (x + y) z

-- a bit that is xored with a number changes exactly when the number is odd
pub odd_exactly : (u v s : ℕ) → v < 2 → u ≡ (v + s) % 2 → u ≢ v ↔ s % 2 ≡ 1
odd_exactly u v s l e = (λ d. by_lt (s % 2) 1 (λ k. absurd (d (omega arith))) (λ k. omega arith), λ o q. omega arith)

differ_mod : (a b : ℕ) → a < 2 → b < 2 → differ a b ≡ (a + b) % 2
differ_mod a b h k =
    two (λ (x : ℕ). differ x b ≡ (x + b) % 2)
    (two (λ (y : ℕ). y ≡ (0 + y) % 2) refl refl b k)
    (two (λ (y : ℕ). differ 1 y ≡ (1 + y) % 2) refl refl b k)
    a h

xor_low : (a b : ℕ) → bit_xor a b % 2 ≡ (a % 2 + b % 2) % 2
xor_low a b =
    ap (λ (x : ℕ). x % 2) (xor_step a b)
    ∙ mul-add-mod_self_right (bit_xor (a / 2) (b / 2)) 2 (differ (a % 2) (b % 2))
    ∙ ap (λ (x : ℕ). x % 2) (differ_mod (a % 2) (b % 2) (omega arith) (omega arith))
    ∙ mod-mod (a % 2 + b % 2) 2

-- an exclusive or, bit by bit
pub bit-xor : (a b i : ℕ) → bit (bit_xor a b) i ≡ (bit a i + bit b i) % 2
unfolding bit
bit-xor a b i = ap (λ (x : ℕ). x % 2) (xor_shr a b i) ∙ xor_low (a / 2 ^ i) (b / 2 ^ i)

-- a bit as a sum modulo 2, and the sums of an exclusive or: a chain of these is one flat sum
pub bit_sum : (a i : ℕ) → bit a i ≡ bit a i % 2
bit_sum a i = sym (mod-eq_of_lt (bit_lt a i))

-- one more operand of the chain
pub xor_sum : (a b i x y : ℕ) → bit a i ≡ x % 2 → bit b i ≡ y % 2 → bit (bit_xor a b) i ≡ (x + y) % 2
xor_sum a b i x y p q = bit-xor a b i ∙ ap₂ (λ (u v : ℕ). (u + v) % 2) p q ∙ mod_sums x y

max_low : (a b : ℕ) → bit_or a b % 2 ≡ max (a % 2) (b % 2)
max_low a b =
    ap (λ (x : ℕ). x % 2) (or_step a b)
    ∙ mul-add-mod_self_right (bit_or (a / 2) (b / 2)) 2 (max (a % 2) (b % 2))
    ∙ mod-eq_of_lt (omega arith)

-- an or, bit by bit
pub bit-or : (a b i : ℕ) → bit (bit_or a b) i ≡ max (bit a i) (bit b i)
unfolding bit
bit-or a b i = ap (λ (x : ℕ). x % 2) (or_shr a b i) ∙ max_low (a / 2 ^ i) (b / 2 ^ i)

min_low : (a b : ℕ) → bit_and a b % 2 ≡ min (a % 2) (b % 2)
min_low a b =
    ap (λ (x : ℕ). x % 2) (and_step a b)
    ∙ mul-add-mod_self_right (bit_and (a / 2) (b / 2)) 2 (min (a % 2) (b % 2))
    ∙ mod-eq_of_lt (omega arith)

-- an and, bit by bit
pub bit-and : (a b i : ℕ) → bit (bit_and a b) i ≡ min (bit a i) (bit b i)
unfolding bit
bit-and a b i = ap (λ (x : ℕ). x % 2) (and_shr a b i) ∙ min_low (a / 2 ^ i) (b / 2 ^ i)

-- ---- two numbers with the same bits
pub same_bits : (k a b : ℕ) → a < 2 ^ k → b < 2 ^ k → ((i : ℕ) → i < k → bit a i ≡ bit b i) → a ≡ b
same_bits zero a b ha hb e = lt-one ha ∙ sym (lt-one hb)
same_bits (suc k) a b ha hb e =
    let q : a / 2 ≡ b / 2 = same_bits k (a / 2) (b / 2) (omega arith) (omega arith) (λ i h. sym (bit_suc a i) ∙ e (suc i) (omega arith) ∙ bit_suc b i) in
    let r : a % 2 ≡ b % 2 = sym (bit_zero a) ∙ e 0 (omega arith) ∙ bit_zero b in
    omega arith

-- ---- the number of some bits
pub number_lt : (k : ℕ) (f : ℕ → ℕ) → ((i : ℕ) → i < k → f i < 2) → number k f < 2 ^ k
unfolding number
number_lt zero f h = omega arith
number_lt (suc k) f h =
    let l : f k < 2 = h k (omega arith) in
    let m : f k * 2 ^ k ≤ 1 * 2 ^ k = mul-le-mul_right (2 ^ k) (omega arith) in
    omega (arith, number_lt k f (λ i j. h i (omega arith)))

-- its bits are the bits that it was made of
pub bit_number : (k : ℕ) (f : ℕ → ℕ) → ((i : ℕ) → i < k → f i < 2) → (i : ℕ) → i < k → bit (number k f) i ≡ f i
unfolding number
bit_number zero f h i l = absurd (omega arith)
bit_number (suc k) f h i l =
    let small : (j : ℕ) → j < k → f j < 2 = λ j m. h j (omega arith) in
    ap (λ (x : ℕ). bit x i) (add_comm (number k f) (f k * 2 ^ k))
    ∙ by_lt i k (λ m. bit_below (f k) k (number k f) i m ∙ bit_number k f small i m)
    (λ m.
    let e : i ≡ k + 0 = omega arith in
    let e' : k ≡ i = omega arith in
    ap (bit (f k * 2 ^ k + number k f)) e ∙ bit_above (f k) k (number k f) 0 (number_lt k f small)
    ∙ bit_zero (f k) ∙ mod-eq_of_lt (h k (omega arith)) ∙ ap f e')

-- it depends on the bits below k alone
pub number_same : (k : ℕ) (f g : ℕ → ℕ) → ((i : ℕ) → i < k → f i ≡ g i) → number k f ≡ number k g
unfolding number
number_same zero f g e = refl
number_same (suc k) f g e =
    ap₂ (λ (x y : ℕ). x + y * 2 ^ k) (number_same k f g (λ i h. e i (omega arith))) (e k (omega arith))

-- how a number that a program worked out is shown to be the number of the bits that a definition gives
pub is_number : (k n : ℕ) (f : ℕ → ℕ) → n < 2 ^ k → ((i : ℕ) → i < k → bit n i ≡ f i) → n ≡ number k f
is_number k n f h e =
    same_bits k n (number k f) h (number_lt k f small) (λ i l. e i l ∙ sym (bit_number k f small i l))
  where
    small : (i : ℕ) → i < k → f i < 2
    small i l = subst (λ (x : ℕ). x < 2) (e i l) (bit_lt n i)

-- the first j bits, and the k bits after them
pub number_add : (j k : ℕ) (f : ℕ → ℕ) → number (j + k) f ≡ number j f + number k (λ i. f (j + i)) * 2 ^ j
unfolding number
number_add j zero f =
    let e : number j f ≡ number j f + 0 * 2 ^ j = omega arith in
    ap (λ (n : ℕ). number n f) (add-zero j) ∙ e
number_add j (suc k) f =
    ap (λ (n : ℕ). number n f) (add-suc j k)
    ∙ ap₂ (λ (x y : ℕ). x + f (j + k) * y) (number_add j k f) (pow-add 2 j k ∙ mul_comm (2 ^ j) (2 ^ k))
    ∙ ap (λ (x : ℕ). number j f + number k (λ i. f (j + i)) * 2 ^ j + x) (sym (mul_assoc (f (j + k)) (2 ^ k) (2 ^ j)))
    ∙ add_assoc (number j f) (number k (λ i. f (j + i)) * 2 ^ j) (f (j + k) * 2 ^ k * 2 ^ j)
    ∙ ap (λ (x : ℕ). number j f + x) (sym (add-mul (number k (λ i. f (j + i))) (f (j + k) * 2 ^ k) (2 ^ j)))

-- ---- sums
pub total_add : (f : ℕ → ℕ) (j n : ℕ) → total f (j + n) ≡ total f j + total (λ i. f (j + i)) n
unfolding total
total_add f j zero = ap (total f) (add-zero j) ∙ sym (add-zero (total f j))
total_add f j (suc n) = ap (total f) (add-suc j n) ∙ omega (arith, total_add f j n)

-- a longer sum is no smaller
pub total_mono : (f : ℕ → ℕ) (j n : ℕ) → j ≤ n → total f j ≤ total f n
total_mono f j n l =
    let e : n ≡ j + (n - j) = omega arith in
    omega (arith, ap (total f) e, total_add f j (n - j))

-- larger terms, larger sum
pub total_le : (f g : ℕ → ℕ) (n : ℕ) → ((i : ℕ) → f i ≤ g i) → total f n ≤ total g n
unfolding total
total_le f g zero h = omega arith
total_le f g (suc n) h = omega (arith, total_le f g n h, h n)

-- a sum of sums
pub total_sum : (f g : ℕ → ℕ) (n : ℕ) → total (λ i. f i + g i) n ≡ total f n + total g n
unfolding total
total_sum f g zero = refl
total_sum f g (suc n) = omega (arith, total_sum f g n)

-- where the two agree below n, and where they agree at all
pub total_below : (f g : ℕ → ℕ) (n : ℕ) → ((i : ℕ) → i < n → f i ≡ g i) → total f n ≡ total g n
unfolding total
total_below f g zero h = refl
total_below f g (suc n) h = ap₂ (λ (u v : ℕ). u + v) (total_below f g n (λ i l. h i (omega arith))) (h n (omega arith))

-- .. or everywhere
pub total_same : (f g : ℕ → ℕ) (n : ℕ) → ((i : ℕ) → f i ≡ g i) → total f n ≡ total g n
total_same f g n h = total_below f g n (λ i l. h i)

-- ---- streams
pub stream_lt : (w : ℕ) (xs : List ℕ) (n : ℕ) → stream_bit w xs n < 2
unfolding stream_bit
stream_lt w xs n = bit_lt (get_or xs (n / w) 0) (n % w)

-- the first w bits are those of the first number
pub stream_head : (w x : ℕ) (xs : List ℕ) (n : ℕ) → n < w → stream_bit w (x ∷ xs) n ≡ bit x n
unfolding stream_bit
stream_head w x xs n l = ap₂ (λ (i j : ℕ). bit (get_or (x ∷ xs) i 0) j) (div-eq_of_lt l) (mod-eq_of_lt l)

-- the bits after them are those of the rest
pub stream_tail : (w x : ℕ) (xs : List ℕ) (n : ℕ) → 0 < w → stream_bit w (x ∷ xs) (w + n) ≡ stream_bit w xs n
unfolding stream_bit
stream_tail w x xs n z =
    ap₂ (λ (i j : ℕ). bit (get_or (x ∷ xs) i 0) j) (add-div_left n z ∙ add-one (n / w)) (add-mod_left w n)

-- a stream that was cut, as a stream again
pub stream_cut : (w : ℕ) → 0 < w → (k : ℕ) (f : ℕ → ℕ) → ((i : ℕ) → f i < 2) → (n : ℕ) → n < w * k → stream_bit w (cut w f k) n ≡ f n
unfolding cut
stream_cut w z zero f b n l = absurd (omega arith)
stream_cut w z (suc k) f b n l =
    by_lt n w
    (λ m. stream_head w (number w f) (cut w (λ i. f (w + i)) k) n m ∙ bit_number w f (λ i q. b i) n m)
    (λ m.
    let e : n ≡ w + (n - w) = omega arith in
    let e' : w + (n - w) ≡ n = omega arith in
    ap (stream_bit w (number w f ∷ cut w (λ i. f (w + i)) k)) e
    ∙ stream_tail w (number w f) (cut w (λ i. f (w + i)) k) (n - w) z
    ∙ stream_cut w z k (λ i. f (w + i)) (λ i. b (w + i)) (n - w) (omega arith) ∙ ap f e')

-- as many numbers as were asked for
pub length_cut : (w k : ℕ) (f : ℕ → ℕ) → length (cut w f k) ≡ k
unfolding cut
length_cut w zero f = refl
length_cut w (suc k) f = ap suc (length_cut w k (λ i. f (w + i)))

-- a cut depends on the first w * k bits alone
pub cut_same : (w k : ℕ) (f g : ℕ → ℕ) → ((i : ℕ) → i < w * k → f i ≡ g i) → cut w f k ≡ cut w g k
unfolding cut
cut_same w zero f g e = refl
cut_same w (suc k) f g e =
    ap₂ ◌∷◌ (number_same w f g (λ i l. e i (omega (arith, mul-suc w k))))
    (cut_same w k (λ i. f (w + i)) (λ i. g (w + i)) (λ i l. e (w + i) (omega arith)))

-- numbers of w bits are the cut of their own stream: so a list is known by its stream
pub data Words (w : ℕ) : List ℕ → Type 0 where
  none : Words w []
  more : {x : ℕ} {xs : List ℕ} → x < 2 ^ w → Words w xs → Words w (x ∷ xs)

-- such a list is the cut of its stream
pub cut_stream : (w : ℕ) → 0 < w → {xs : List ℕ} → Words w xs → cut w (stream_bit w xs) (length xs) ≡ xs
unfolding cut
cut_stream w z none = refl
cut_stream w z (more {x} {xs} l r) =
    ap₂ ◌∷◌ (sym (is_number w x (stream_bit w (x ∷ xs)) l (λ i m. sym (stream_head w x xs i m))))
    (cut_same w (length xs) (λ i. stream_bit w (x ∷ xs) (w + i)) (stream_bit w xs) (λ i m. stream_tail w x xs i z) ∙ cut_stream w z r)
