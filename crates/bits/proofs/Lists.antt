-- The laws of streams of bits as lists of bits, of words and of line bytes. Assumes nothing.
use mathlib.Core.Path.{◌≡◌, refl, sym, ap, ap₂, ◌∙◌}
use mathlib.Core.List.{List, [], ◌∷◌, ◌++◌}
use Prim.Native.Nat.{ℕ, zero, suc, ◌+◌, ◌-◌, ◌*◌, ◌/◌, ◌%◌, ◌^◌, ◌≤◌, ◌<◌}
use native.Mathlib.Nat.{zero-add, mul_comm, mul-suc, le-div_iff_mul-le}
use native.Mathlib.Omega.{arith}
use lib.ListN.{length, get_or, take, drop, length-append, get_or-eq_default}
use lib.Pow.{pow_pos}
use lib.Seq.{get_or-take, get_or-drop}
use Rattle.bits.specs.Bits.{bit, number, stream_bit, cut, listed, line_bit, line_bits}
use Rattle.bits.proofs.Laws.{bit_none, by_lt, stream_lt, stream_head, stream_tail, stream_cut, length_cut, cut_same, Words, none, more}

-- ---- the first bits of a stream
pub length_listed : (k : ℕ) (f : ℕ → ℕ) → length (listed k f) ≡ k
unfolding listed
length_listed zero f = refl
length_listed (suc k) f = ap suc (length_listed k (λ i. f (suc i)))

-- element i is bit i
pub listed_at : (k : ℕ) (f : ℕ → ℕ) (i : ℕ) → i < k → get_or (listed k f) i 0 ≡ f i
unfolding listed
listed_at zero f i l = absurd (omega arith)
listed_at (suc k) f zero l = refl
listed_at (suc k) f (suc i) l = listed_at k (λ i. f (suc i)) i (omega arith)

-- the list depends on the first k bits alone
pub listed_same : (k : ℕ) (f g : ℕ → ℕ) → ((i : ℕ) → i < k → f i ≡ g i) → listed k f ≡ listed k g
unfolding listed
listed_same zero f g e = refl
listed_same (suc k) f g e =
    ap₂ ◌∷◌ (e 0 (omega arith)) (listed_same k (λ i. f (suc i)) (λ i. g (suc i)) (λ i l. e (suc i) (omega arith)))

-- the first j bits, and the k bits after them
pub listed_add : (j k : ℕ) (f : ℕ → ℕ) → listed (j + k) f ≡ listed j f ++ listed k (λ i. f (j + i))
unfolding listed
listed_add zero k f =
    ap (λ (n : ℕ). listed n f) (zero-add k) ∙ listed_same k f (λ i. f (0 + i)) (λ i l. ap f (sym (zero-add i)))
listed_add (suc j) k f =
    let e : suc j + k ≡ suc (j + k) = omega arith in
    let g : (i : ℕ) → suc (j + i) ≡ suc j + i = λ i. omega arith in
    ap (λ (n : ℕ). listed n f) e
    ∙ ap (λ (l : List ℕ). f 0 ∷ l) (listed_add j k (λ i. f (suc i)))
    ∙ ap (λ (l : List ℕ). f 0 ∷ (listed j (λ i. f (suc i)) ++ l)) (listed_same k (λ i. f (suc (j + i))) (λ i. f (suc j + i)) (λ i l. ap f (g i)))

-- the first n of k bits
pub take_listed : (n k : ℕ) (f : ℕ → ℕ) → n ≤ k → take n (listed k f) ≡ listed n f
unfolding listed
take_listed zero k f l = refl
take_listed (suc n) zero f l = absurd (omega arith)
take_listed (suc n) (suc k) f l = ap (λ (t : List ℕ). f 0 ∷ t) (take_listed n k (λ i. f (suc i)) (omega arith))

-- all but the first p of k bits
pub drop_listed : (p k : ℕ) (f : ℕ → ℕ) → drop p (listed k f) ≡ listed (k - p) (λ i. f (p + i))
unfolding listed
drop_listed zero k f =
    let e : k ≡ k - 0 = omega arith in
    listed_same k f (λ i. f (0 + i)) (λ i l. ap f (sym (zero-add i))) ∙ ap (λ (n : ℕ). listed n (λ i. f (0 + i))) e
drop_listed (suc p) zero f =
    let e : 0 ≡ 0 - suc p = omega arith in
    ap (λ (n : ℕ). listed n (λ i. f (suc p + i))) e
drop_listed (suc p) (suc k) f =
    let e : k - p ≡ suc k - suc p = omega arith in
    let g : (i : ℕ) → suc (p + i) ≡ suc p + i = λ i. omega arith in
    drop_listed p k (λ i. f (suc i)) ∙ listed_same (k - p) (λ i. f (suc (p + i))) (λ i. f (suc p + i)) (λ i l. ap f (g i))
    ∙ ap (λ (n : ℕ). listed n (λ i. f (suc p + i))) e

-- n bits of a list of bits, from bit p on
pub part_listed : (n p k : ℕ) (f : ℕ → ℕ) → p + n ≤ k → take n (drop p (listed k f)) ≡ listed n (λ i. f (p + i))
part_listed n p k f l = ap (take n) (drop_listed p k f) ∙ take_listed n (k - p) (λ i. f (p + i)) (omega arith)

-- ---- streams of lists that are joined
-- past the end there are zeros
pub stream_end : (w : ℕ) (xs : List ℕ) (n : ℕ) → 0 < w → w * length xs ≤ n → stream_bit w xs n ≡ 0
unfolding stream_bit
stream_end w xs n z l =
    ap (λ (x : ℕ). bit x (n % w)) (get_or-eq_default xs 0 ((le-div_iff_mul-le z).1 (omega (arith, mul_comm w (length xs))))) ∙ bit_none (n % w)

-- the bits of the first list
pub stream_left : (w : ℕ) → 0 < w → (xs ys : List ℕ) (n : ℕ) → n < w * length xs → stream_bit w (xs ++ ys) n ≡ stream_bit w xs n
stream_left w z [] ys n l = absurd (omega arith)
stream_left w z (x ∷ xs) ys n l =
    by_lt n w
    (λ m. stream_head w x (xs ++ ys) n m ∙ sym (stream_head w x xs n m))
    (λ m.
    let e : n ≡ w + (n - w) = omega arith in
    ap (stream_bit w (x ∷ (xs ++ ys))) e ∙ stream_tail w x (xs ++ ys) (n - w) z
    ∙ stream_left w z xs ys (n - w) (omega (arith, mul-suc w (length xs)))
    ∙ sym (ap (stream_bit w (x ∷ xs)) e ∙ stream_tail w x xs (n - w) z))

-- the bits of the second list
pub stream_right : (w : ℕ) → 0 < w → (xs ys : List ℕ) (n : ℕ) → stream_bit w (xs ++ ys) (w * length xs + n) ≡ stream_bit w ys n
stream_right w z [] ys n =
    let e : w * 0 + n ≡ n = omega arith in
    ap (stream_bit w ys) e
stream_right w z (x ∷ xs) ys n =
    let e : w * suc (length xs) + n ≡ w + (w * length xs + n) = omega (arith, mul-suc w (length xs)) in
    ap (stream_bit w (x ∷ (xs ++ ys))) e ∙ stream_tail w x (xs ++ ys) (w * length xs + n) z ∙ stream_right w z xs ys n

-- ---- a stream cut into words
pub cut_add : (w a b : ℕ) (f : ℕ → ℕ) → cut w f (a + b) ≡ cut w f a ++ cut w (λ i. f (w * a + i)) b
unfolding cut
cut_add w zero b f =
    let e : (i : ℕ) → i ≡ w * 0 + i = λ i. omega arith in
    ap (cut w f) (zero-add b) ∙ cut_same w b f (λ i. f (w * 0 + i)) (λ i l. ap f (e i))
cut_add w (suc a) b f =
    let e : suc a + b ≡ suc (a + b) = omega arith in
    let g : (i : ℕ) → w + (w * a + i) ≡ w * suc a + i = λ i. omega (arith, mul-suc w a) in
    ap (cut w f) e
    ∙ ap (λ (l : List ℕ). number w f ∷ l) (cut_add w a b (λ i. f (w + i)))
    ∙ ap (λ (l : List ℕ). number w f ∷ (cut w (λ i. f (w + i)) a ++ l))
    (cut_same w b (λ i. f (w + (w * a + i))) (λ i. f (w * suc a + i)) (λ i l. ap f (g i)))

-- joined lists, cut where they join
pub cut_join : (v w k j : ℕ) (xs ys : List ℕ) → 0 < v → w * k ≡ v * length xs
    → cut w (stream_bit v (xs ++ ys)) (k + j) ≡ cut w (stream_bit v xs) k ++ cut w (stream_bit v ys) j
cut_join v w k j xs ys z e =
    cut_add w k j (stream_bit v (xs ++ ys))
    ∙ ap₂ ◌++◌
    (cut_same w k (stream_bit v (xs ++ ys)) (stream_bit v xs) (λ i l. stream_left v z xs ys i (omega arith)))
    (cut_same w j (λ i. stream_bit v (xs ++ ys) (w * k + i)) (stream_bit v ys)
    (λ i l. ap (λ (n : ℕ). stream_bit v (xs ++ ys) (n + i)) e ∙ stream_right v z xs ys i))

-- each fits
pub words_lt : (w : ℕ) {xs : List ℕ} → Words w xs → (i : ℕ) → get_or xs i 0 < 2 ^ w
words_lt w none i = pow_pos w
words_lt w (more l r) zero = l
words_lt w (more l r) (suc i) = words_lt w r i

-- a list of numbers that fit
pub words : (w : ℕ) (xs : List ℕ) → ((i : ℕ) → get_or xs i 0 < 2 ^ w) → Words w xs
words w [] b = none
words w (x ∷ xs) b = more (b 0) (words w xs (λ i. b (suc i)))

-- two such lists, joined
pub words_append : (w : ℕ) {xs ys : List ℕ} → Words w xs → Words w ys → Words w (xs ++ ys)
words_append w none s = s
words_append w (more l r) s = more l (words_append w r s)

-- ---- the bits of a line
pub line_bit_lt : (line : List ℕ) (n : ℕ) → line_bit line n < 2
unfolding line_bit
line_bit_lt line n = stream_lt 8 line n

-- line bit n by its byte and its place in it
pub line_bit_is : (line : List ℕ) (n b j : ℕ) → n ≡ 8 * b + j → j < 8 → line_bit line n ≡ bit (get_or line b 0) j
unfolding line_bit stream_bit
line_bit_is line n b j e l =
    let d : n / 8 ≡ b = omega arith in
    let m : n % 8 ≡ j = omega arith in
    ap₂ (λ (x y : ℕ). bit (get_or line x 0) y) d m

-- the bits of some bytes of a line
pub line_bit_part : (line : List ℕ) (n at i : ℕ) → i < 8 * n → line_bit (take n (drop at line)) i ≡ line_bit line (8 * at + i)
line_bit_part line n at i l =
    line_bit_is (take n (drop at line)) i (i / 8) (i % 8) (omega arith) (omega arith)
    ∙ ap (λ (x : ℕ). bit x (i % 8)) (get_or-take n (drop at line) (i / 8) 0 (omega arith) ∙ get_or-drop at line (i / 8) 0)
    ∙ sym (line_bit_is line (8 * at + i) (at + i / 8) (i % 8) (omega arith) (omega arith))

-- eight bits a byte
pub length_line_bits : (line : List ℕ) → length (line_bits line) ≡ 8 * length line
unfolding line_bits
length_line_bits line = length_listed (8 * length line) (line_bit line)

-- element n is line bit n
pub line_bits_at : (line : List ℕ) (n : ℕ) → n < 8 * length line → get_or (line_bits line) n 0 ≡ line_bit line n
unfolding line_bits
line_bits_at line n l = listed_at (8 * length line) (line_bit line) n l

-- two lines, one after the other
pub line_bits_append : (a b : List ℕ) → line_bits (a ++ b) ≡ line_bits a ++ line_bits b
unfolding line_bits line_bit
line_bits_append a b =
    let e : 8 * length (a ++ b) ≡ 8 * length a + 8 * length b = omega (arith, length-append a b) in
    ap (λ (n : ℕ). listed n (stream_bit 8 (a ++ b))) e
    ∙ listed_add (8 * length a) (8 * length b) (stream_bit 8 (a ++ b))
    ∙ ap₂ ◌++◌
    (listed_same (8 * length a) (stream_bit 8 (a ++ b)) (stream_bit 8 a) (λ i l. stream_left 8 (omega arith) a b i l))
    (listed_same (8 * length b) (λ i. stream_bit 8 (a ++ b) (8 * length a + i)) (stream_bit 8 b) (λ i l. stream_right 8 (omega arith) a b i))

-- n line bits from bit p on
pub part_line_bits : (n p : ℕ) (line : List ℕ) → p + n ≤ 8 * length line → take n (drop p (line_bits line)) ≡ listed n (λ i. line_bit line (p + i))
unfolding line_bits
part_line_bits n p line l = part_listed n p (8 * length line) (line_bit line) l

-- the bits of a line that was cut from a stream
pub line_bits_cut : (k : ℕ) (f : ℕ → ℕ) → ((i : ℕ) → f i < 2) → line_bits (cut 8 f k) ≡ listed (8 * k) f
unfolding line_bits line_bit
line_bits_cut k f b =
    ap (λ (n : ℕ). listed (8 * n) (stream_bit 8 (cut 8 f k))) (length_cut 8 k f)
    ∙ listed_same (8 * k) (stream_bit 8 (cut 8 f k)) f (stream_cut 8 (omega arith) k f b)
