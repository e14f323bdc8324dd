-- The laws of a shift register, for every length and tap. Assumes nothing.
use mathlib.Core.Path.{◌≡◌, refl, sym, ap, ap₂, ◌∙◌}
use mathlib.Core.Bool.{Bool, cond}
use Prim.Native.Nat.{ℕ, zero, suc, ◌+◌, ◌-◌, ◌*◌, ◌/◌, ◌%◌, ◌^◌, ◌≤◌, ◌<◌}
use native.Mathlib.Nat.{add_comm, add-zero, zero-add, mul-le-mul_right, mod-eq_of_lt, add-suc}
use native.Mathlib.Omega.{arith}
use lib.Bits.{bit_xor, xor_lt, xor_zero_r}
use lib.Pow.{pow_pos}
use borrow.Author.Tests.{lt-ltb, le-ltb}
use Rattle.bits.specs.Bits.{bit, total}
use Rattle.bits.proofs.Laws.{bit_none, bit-xor, by_lt, bit_zero, bit_suc, bit_above, bit_below, same_bits, total_add, total_mono, total_le, total_sum, mod_sums, mod_sums₃, total_same}
use Rattle.register.specs.Register.{push, pushes, whole, mix, history, sent, got, flip}

-- ---- one bit
module _ (m a : ℕ) where
  -- what is mixed is a bit
  pub mix_lt : (h x : ℕ) → mix m a h x < 2
  unfolding mix
  mix_lt h x = omega arith

  -- mixing twice with the same history gives the bit back
  pub mix_twice : (h x : ℕ) → x < 2 → mix m a h (mix m a h x) ≡ x
  unfolding mix
  mix_twice h x l = omega arith

  -- a sent bit is a bit
  pub sent_lt : (x : ℕ → ℕ) (h n : ℕ) → sent m a x h n < 2
  unfolding sent
  sent_lt x h n = mix_lt (history m a x h n) (x n)

  -- a received bit is a bit
  pub got_lt : (y : ℕ → ℕ) (h n : ℕ) → got m a y h n < 2
  unfolding got
  got_lt y h n = mix_lt (pushes m y h n) (y n)

module _ (m : ℕ) where
  -- a history stays a number of m + 1 bits
  pub push_lt : (h b : ℕ) → h < 2 ^ suc m → b < 2 → push m h b < 2 ^ suc m
  unfolding push
  push_lt h b l k =
      let u : b * 2 ^ m ≤ 1 * 2 ^ m = mul-le-mul_right (2 ^ m) (omega arith) in
      omega arith

  -- the bits of a history with one more bit: all move down by one, and the new one is the highest
  pub bit_push_low : (h b j : ℕ) → j < m → bit (push m h b) j ≡ bit h (suc j)
  unfolding push
  bit_push_low h b j l = ap (λ (z : ℕ). bit z j) (add_comm (h / 2) (b * 2 ^ m)) ∙ bit_below b m (h / 2) j l ∙ sym (bit_suc h j)

  -- .. and here the highest
  pub bit_push_top : (h b : ℕ) → h < 2 ^ suc m → b < 2 → bit (push m h b) m ≡ b
  unfolding push
  bit_push_top h b l k =
      ap₂ (λ (z i : ℕ). bit z i) (add_comm (h / 2) (b * 2 ^ m)) (sym (add-zero m)) ∙ bit_above b m (h / 2) 0 (omega arith) ∙ bit_zero b ∙ mod-eq_of_lt k

  -- ---- the one stream
  pub whole_low : (h : ℕ) (y : ℕ → ℕ) (k : ℕ) → k ≤ m → whole m h y k ≡ bit h k
  unfolding whole
  whole_low h y k l = ap (λ (t : Bool). cond t (bit h k) (y (k - suc m))) (lt-ltb k (suc m) (omega arith))

  -- after the history comes the line
  pub whole_high : (h : ℕ) (y : ℕ → ℕ) (k i : ℕ) → k ≡ suc m + i → whole m h y k ≡ y i
  unfolding whole
  whole_high h y k i e =
      let f : k - suc m ≡ i = omega arith in
      ap (λ (t : Bool). cond t (bit h k) (y (k - suc m))) (le-ltb k (suc m) (omega arith)) ∙ ap y f

  module _ (y : ℕ → ℕ) (yb : (n : ℕ) → y n < 2) (h : ℕ) (hb : h < 2 ^ suc m) where
    -- a history stays a number of m + 1 bits
    pub pushes_lt : (n : ℕ) → pushes m y h n < 2 ^ suc m
    unfolding pushes
    pushes_lt zero = hb
    pushes_lt (suc n) = push_lt (pushes m y h n) (y n) (pushes_lt n) (yb n)

    -- bit j of the history after n bits of the line
    pub past : (n j : ℕ) → j ≤ m → bit (pushes m y h n) j ≡ whole m h y (n + j)
    unfolding pushes
    past zero j l = sym (whole_low h y j l) ∙ ap (whole m h y) (sym (zero-add j))
    past (suc n) j l =
        by_lt j m
        (λ k.
        let e : n + suc j ≡ suc n + j = omega arith in
        bit_push_low (pushes m y h n) (y n) j k ∙ past n (suc j) (omega arith) ∙ ap (whole m h y) e)
        (λ k.
        let e : j ≡ m = omega arith in
        ap (bit (push m (pushes m y h n) (y n))) e ∙ bit_push_top (pushes m y h n) (y n) (pushes_lt n) (yb n)
        ∙ sym (whole_high h y (suc n + j) n (omega arith)))

    -- a bit mixed with the history after n bits of the line
    pub mix_at : (a n x : ℕ) → 0 < a → mix m a (pushes m y h n) x ≡ (x + whole m h y (n + (suc m - a)) + whole m h y n) % 2
    unfolding mix
    mix_at a n x p =
        ap₂ (λ (u v : ℕ). (x + u + v) % 2) (past n (suc m - a) (omega arith)) (past n 0 (omega arith) ∙ ap (whole m h y) (add-zero n))

    -- received input bit n: line bit n xor the line bits a and m + 1 places before
    pub got_at : (a n : ℕ) → 0 < a → got m a y h n ≡ (y n + whole m h y (n + (suc m - a)) + whole m h y n) % 2
    unfolding got
    got_at a n p = mix_at a n (y n) p

  -- ---- after m + 1 bits the start no longer matters
  pub pushes_forget : (y : ℕ → ℕ) → ((n : ℕ) → y n < 2) → (h k n : ℕ) → h < 2 ^ suc m → k < 2 ^ suc m → m < n → pushes m y h n ≡ pushes m y k n
  pushes_forget y yb h k n hb kb l =
      same_bits (suc m) (pushes m y h n) (pushes m y k n) (pushes_lt y yb h hb n) (pushes_lt y yb k kb n)
      (λ j q.
      past y yb h hb n j (omega arith) ∙ whole_high h y (n + j) (n + j - suc m) (omega arith)
      ∙ sym (past y yb k kb n j (omega arith) ∙ whole_high k y (n + j) (n + j - suc m) (omega arith)))

  -- .. nor does it for what is received
  pub got_forget : (a : ℕ) (y : ℕ → ℕ) → ((n : ℕ) → y n < 2) → (h k n : ℕ) → h < 2 ^ suc m → k < 2 ^ suc m → m < n → got m a y h n ≡ got m a y k n
  unfolding got
  got_forget a y yb h k n hb kb l = ap (λ (z : ℕ). mix m a z (y n)) (pushes_forget y yb h k n hb kb l)

  -- ---- only the bits up to n matter
  pub pushes_same : (y z : ℕ → ℕ) (h n : ℕ) → ((i : ℕ) → i < n → y i ≡ z i) → pushes m y h n ≡ pushes m z h n
  unfolding pushes
  pushes_same y z h zero e = refl
  pushes_same y z h (suc n) e = ap₂ (push m) (pushes_same y z h n (λ i l. e i (omega arith))) (e n (omega arith))

  -- .. for what is received too
  pub got_same : (a : ℕ) (y z : ℕ → ℕ) (h n : ℕ) → ((i : ℕ) → i ≤ n → y i ≡ z i) → got m a y h n ≡ got m a z h n
  unfolding got
  got_same a y z h n e = ap₂ (mix m a) (pushes_same y z h n (λ i l. e i (omega arith))) (e n (omega arith))

  -- ---- a stream in parts
  pub pushes_add : (y : ℕ → ℕ) (h j n : ℕ) → pushes m (λ i. y (j + i)) (pushes m y h j) n ≡ pushes m y h (j + n)
  unfolding pushes
  pushes_add y h j zero = ap (pushes m y h) (sym (add-zero j))
  pushes_add y h j (suc n) = ap (λ (z : ℕ). push m z (y (j + n))) (pushes_add y h j n) ∙ ap (pushes m y h) (sym (add-suc j n))

  -- .. for what is received too
  pub got_add : (a : ℕ) (y : ℕ → ℕ) (h j n : ℕ) → got m a (λ i. y (j + i)) (pushes m y h j) n ≡ got m a y h (j + n)
  unfolding got
  got_add a y h j n = ap (λ (z : ℕ). mix m a z (y (j + n))) (pushes_add y h j n)

  -- ---- a flipped line
  pub whole_flip : (h g : ℕ) (y f : ℕ → ℕ) (k : ℕ) → whole m (bit_xor h g) (flip y f) k ≡ (whole m h y k + whole m g f k) % 2
  unfolding flip
  whole_flip h g y f k =
      by_lt k (suc m)
      (λ l.
      whole_low (bit_xor h g) (flip y f) k (omega arith) ∙ bit-xor h g k
      ∙ ap₂ (λ (u v : ℕ). (u + v) % 2) (sym (whole_low h y k (omega arith))) (sym (whole_low g f k (omega arith))))
      (λ l.
      let e : k ≡ suc m + (k - suc m) = omega arith in
      whole_high (bit_xor h g) (flip y f) k (k - suc m) e
      ∙ ap₂ (λ (u v : ℕ). (u + v) % 2) (sym (whole_high h y k (k - suc m) e)) (sym (whole_high g f k (k - suc m) e)))

module _ (m a : ℕ) where
  -- sending in parts is sending at once: the history
  pub history_add : (x : ℕ → ℕ) (h j n : ℕ) → history m a (λ i. x (j + i)) (history m a x h j) n ≡ history m a x h (j + n)
  unfolding history
  history_add x h j zero = ap (history m a x h) (sym (add-zero j))
  history_add x h j (suc n) =
      ap (λ (z : ℕ). push m z (mix m a z (x (j + n)))) (history_add x h j n) ∙ ap (history m a x h) (sym (add-suc j n))

  -- .. and the sent bits
  pub sent_add : (x : ℕ → ℕ) (h j n : ℕ) → sent m a (λ i. x (j + i)) (history m a x h j) n ≡ sent m a x h (j + n)
  unfolding sent
  sent_add x h j n = ap (λ (z : ℕ). mix m a z (x (j + n))) (history_add x h j n)

  -- ---- only the input bits up to n matter
  pub history_same : (x z : ℕ → ℕ) (h n : ℕ) → ((i : ℕ) → i < n → x i ≡ z i) → history m a x h n ≡ history m a z h n
  unfolding history
  history_same x z h zero e = refl
  history_same x z h (suc n) e =
      ap₂ (λ (k b : ℕ). push m k (mix m a k b)) (history_same x z h n (λ i l. e i (omega arith))) (e n (omega arith))

  -- .. for what is sent too
  pub sent_same : (x z : ℕ → ℕ) (h n : ℕ) → ((i : ℕ) → i ≤ n → x i ≡ z i) → sent m a x h n ≡ sent m a z h n
  unfolding sent
  sent_same x z h n e = ap₂ (mix m a) (history_same x z h n (λ i l. e i (omega arith))) (e n (omega arith))

  -- ---- sending: the history is what stands on the line
  pub history_line : (x : ℕ → ℕ) (h n : ℕ) → history m a x h n ≡ pushes m (sent m a x h) h n
  unfolding history pushes sent
  history_line x h zero = refl
  history_line x h (suc n) = ap (λ (z : ℕ). push m z (sent m a x h n)) (history_line x h n)

  -- sent bit n = input bit n xor the sent bits a and m + 1 places before
  pub sent_at : (x : ℕ → ℕ) (h n : ℕ) → h < 2 ^ suc m → 0 < a
      → sent m a x h n ≡ (x n + whole m h (sent m a x h) (n + (suc m - a)) + whole m h (sent m a x h) n) % 2
  unfolding sent
  sent_at x h n hb p =
      ap (λ (z : ℕ). mix m a z (x n)) (history_line x h n) ∙ mix_at m (sent m a x h) (sent_lt m a x h) h hb a n (x n) p

  -- .. and from the place m + 1 on also three input bits and the sent bits 2 a and 2 (m + 1) places before: what both bits before have falls out
  pub sent_squared : (x : ℕ → ℕ) (h n : ℕ) → h < 2 ^ suc m → 0 < a → a ≤ suc m → suc m ≤ n
      → sent m a x h n
      ≡ (x n + x (n - a) + x (n - suc m) + whole m h (sent m a x h) (n - a + (suc m - a)) + whole m h (sent m a x h) (n - suc m)) % 2
  sent_squared x h n hb p la ln =
      let w = whole m h (sent m a x h) in
      let near : w (n + (suc m - a)) ≡ sent m a x h (n - a) = whole_high m h (sent m a x h) (n + (suc m - a)) (n - a) (omega arith) in
      let far : w n ≡ sent m a x h (n - suc m) = whole_high m h (sent m a x h) n (n - suc m) (omega arith) in
      let both : n - suc m + (suc m - a) ≡ n - a = omega arith in
      let f : sent m a x h (n - suc m) ≡ (x (n - suc m) + w (n - a) + w (n - suc m)) % 2 =
      sent_at x h (n - suc m) hb p ∙ ap (λ (i : ℕ). (x (n - suc m) + w i + w (n - suc m)) % 2) both in
      omega (arith, sent_at x h n hb p, near, far, sent_at x h (n - a) hb p, f)

  -- ---- there and back, on a whole stream
  pub round_trip : (x : ℕ → ℕ) (h n : ℕ) → x n < 2 → got m a (sent m a x h) h n ≡ x n
  unfolding got sent
  round_trip x h n l =
      ap (λ (z : ℕ). mix m a z (sent m a x h n)) (sym (history_line x h n)) ∙ mix_twice m a (history m a x h n) (x n) l

  -- whatever the receiver's start, once m + 1 bits have come
  pub round_trip_late : (x : ℕ → ℕ) (h k n : ℕ) → x n < 2 → h < 2 ^ suc m → k < 2 ^ suc m → m < n → got m a (sent m a x h) k n ≡ x n
  round_trip_late x h k n l hb kb q = got_forget m a (sent m a x h) (sent_lt m a x h) k h n kb hb q ∙ round_trip x h n l

  -- ---- flips: the received bits change as if the flips alone had been received
  flips : (p q r u v w : ℕ) → ((p + u) % 2 + (q + v) % 2 + (r + w) % 2) % 2 ≡ ((p + q + r) % 2 + (u + v + w) % 2) % 2
  flips p q r u v w =
      let e : (p + u) + (q + v) + (r + w) ≡ (p + q + r) + (u + v + w) = omega arith in
      mod_sums₃ (p + u) (q + v) (r + w) ∙ ap (λ (x : ℕ). x % 2) e ∙ sym (mod_sums (p + q + r) (u + v + w))

  mod_of_sum : (x y : ℕ) → (x + y % 2) % 2 ≡ (x + y) % 2
  mod_of_sum x y = omega arith

  flip_lt : (y f : ℕ → ℕ) (n : ℕ) → flip y f n < 2
  unfolding flip
  flip_lt y f n = omega arith

  -- a flipped line gives what the line gives, xored with what the flips give
  pub got_flip : (y f : ℕ → ℕ) → ((n : ℕ) → y n < 2) → ((n : ℕ) → f n < 2) → (h g : ℕ) → h < 2 ^ suc m → g < 2 ^ suc m → 0 < a
      → (n : ℕ) → got m a (flip y f) (bit_xor h g) n ≡ (got m a y h n + got m a f g n) % 2
  unfolding flip
  got_flip y f yb fb h g hb gb p n =
      let t = n + (suc m - a) in
      got_at m (flip y f) (flip_lt y f) (bit_xor h g) (xor_lt (suc m) h g hb gb) a n p
      ∙ ap₂ (λ (u v : ℕ). (flip y f n + u + v) % 2) (whole_flip m h g y f t) (whole_flip m h g y f n)
      ∙ flips (y n) (whole m h y t) (whole m h y n) (f n) (whole m g f t) (whole m g f n)
      ∙ sym (ap₂ (λ (u v : ℕ). (u + v) % 2) (got_at m y yb h hb a n p) (got_at m f fb g gb a n p))

  -- a received bit is xored with the number of flips among line bit n and the bits a and m + 1 places before it
  pub got_flips : (y f : ℕ → ℕ) → ((n : ℕ) → y n < 2) → ((n : ℕ) → f n < 2) → (h g : ℕ) → h < 2 ^ suc m → g < 2 ^ suc m → 0 < a
      → (n : ℕ) → got m a (flip y f) (bit_xor h g) n ≡ (got m a y h n + (f n + whole m g f (n + (suc m - a)) + whole m g f n)) % 2
  got_flips y f yb fb h g hb gb p n =
      got_flip y f yb fb h g hb gb p n
      ∙ ap (λ (x : ℕ). (got m a y h n + x) % 2) (got_at m f fb g gb a n p) ∙ mod_of_sum (got m a y h n) (f n + whole m g f (n + (suc m - a)) + whole m g f n)

  -- ---- how many bits change: in a window no longer than the least distance of two taps, each flip changes one bit at most
  module _ (f : ℕ → ℕ) (fb : (n : ℕ) → f n < 2) (p : 0 < a) where
    got_few : (n : ℕ) → got m a f 0 n ≤ whole m 0 f (n + suc m) + whole m 0 f (n + (suc m - a)) + whole m 0 f n
    got_few n =
        let e : whole m 0 f (n + suc m) ≡ f n = whole_high m 0 f (n + suc m) n (omega arith) in
        omega (arith, got_at m f fb 0 (pow_pos (suc m)) a n p)

    none_before : (k : ℕ) → k ≤ suc m → total (whole m 0 f) k ≡ 0
    unfolding total
    none_before zero l = refl
    none_before (suc k) l = omega (arith, none_before k (omega arith), whole_low m 0 f k (omega arith), bit_none k)

    whole_total : (k : ℕ) → total (whole m 0 f) (suc m + k) ≡ total f k
    whole_total k =
        total_add (whole m 0 f) (suc m) k
        ∙ ap₂ (λ (u v : ℕ). u + v) (none_before (suc m) (omega arith)) (total_same (λ i. whole m 0 f (suc m + i)) f k (λ i. whole_high m 0 f (suc m + i) i refl))
        ∙ zero-add (total f k)

    few_flips : (j w : ℕ) → w ≤ a → w ≤ suc m - a → total (λ i. got m a f 0 (j + i)) w ≤ total f (j + w)
    few_flips j w la lt =
        let t = suc m - a in
        let seg : ℕ → ℕ → ℕ = λ s i. whole m 0 f (s + i) in
        let few : (i : ℕ) → got m a f 0 (j + i) ≤ seg (j + suc m) i + seg (j + t) i + seg j i =
        λ i.
        let e : j + i + suc m ≡ j + suc m + i = omega arith in
        let g : j + i + t ≡ j + t + i = omega arith in
        omega (arith, got_few (j + i), ap (whole m 0 f) e, ap (whole m 0 f) g) in
        let top : suc m + (j + w) ≡ j + suc m + w = omega arith in
        omega (
          arith,
          total_le (λ i. got m a f 0 (j + i)) (λ i. seg (j + suc m) i + seg (j + t) i + seg j i) w few,
          total_sum (λ i. seg (j + suc m) i + seg (j + t) i) (seg j) w,
          total_sum (seg (j + suc m)) (seg (j + t)) w,
          total_add (whole m 0 f) j w,
          total_add (whole m 0 f) (j + t) w,
          total_add (whole m 0 f) (j + suc m) w,
          total_mono (whole m 0 f) (j + w) (j + t) (omega arith),
          total_mono (whole m 0 f) (j + t + w) (j + suc m) (omega arith),
          ap (total (whole m 0 f)) top,
          whole_total (j + w),
        )

    -- in such a window no more received bits change than line bits were flipped before its end
    pub changed_few : (y : ℕ → ℕ) → ((n : ℕ) → y n < 2) → (h : ℕ) → h < 2 ^ suc m → (j w : ℕ) → w ≤ a → w ≤ suc m - a
        → total (λ i. (got m a (flip y f) h (j + i) + got m a y h (j + i)) % 2) w ≤ total f (j + w)
    changed_few y yb h hb j w la lt =
        omega (
          arith,
          few_flips j w la lt,
          total_same (λ i. (got m a (flip y f) h (j + i) + got m a y h (j + i)) % 2) (λ i. got m a f 0 (j + i)) w (λ i. change (j + i)),
        )
      where
        change : (n : ℕ) → (got m a (flip y f) h n + got m a y h n) % 2 ≡ got m a f 0 n
        change n =
            let e : got m a (flip y f) h n ≡ (got m a y h n + got m a f 0 n) % 2 =
            ap (λ (k : ℕ). got m a (flip y f) k n) (sym (xor_zero_r h)) ∙ got_flip y f yb fb h 0 hb (pow_pos (suc m)) p n in
            omega (arith, got_lt m a y h n, got_lt m a f 0 n)
