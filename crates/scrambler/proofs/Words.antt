-- 64 bits scrambled in two strides, and descrambled at once, by operations on words. Assumes nothing.
use mathlib.Core.Path.{◌≡◌, refl, sym, ap, ◌∙◌}
use Prim.Native.Nat.{ℕ, ◌+◌, ◌-◌, ◌*◌, ◌/◌, ◌%◌, ◌^◌, ◌≤◌, ◌<◌}
use native.Mathlib.Nat.{add-zero, add_comm, mod-lt, div-one}
use native.Mathlib.Omega.{arith}
use lib.Bits.{bit_or, bit_xor, or_lt, xor_lt}
use lib.Pow.{pow_pos}
use Rattle.bits.specs.Bits.{bit}
use Rattle.bits.proofs.Laws.{bit_lt, by_lt, bit_shr, bit_high, bit-or, shifted_low, shifted_high, bit-xor, bit_sum, xor_sum, is_number, same_bits}
use Rattle.register.specs.Register.{sent, pushes, got, whole}
use Rattle.register.proofs.Strides.{sent_own}
use Rattle.register.proofs.Laws.{sent_lt, whole_low, whole_high, past, pushes_lt, history_line, sent_at, got_at}
use Rattle.scrambler.specs.Scrambler.{scrambled, history_after, descrambled, line_after}

-- an or of two numbers that share no bit has the bits of both
pub or_sum : (a b n t : ℕ) → t < 2 → t ≡ bit a n + bit b n → bit (bit_or b a) n ≡ t % 2
or_sum a b n t l e = omega (arith, bit-or b a n)

module _ (h : ℕ) (hb : h < 2 ^ 58) where
  -- 64 bits of the stream from place s on, as words: the history shifted right, and the line shifted left, of which v has what is needed
  pub window : (y : ℕ → ℕ) (v s n : ℕ) → s ≤ 58 → n < 64 → ((i : ℕ) → i + 58 < 64 + s → y i ≡ bit v i)
      → whole 57 h y (n + s) ≡ bit (h / 2 ^ s) n + bit (v * 2 ^ (58 - s) % 2 ^ 64) n
  window y v s n sl nl e =
      by_lt n (58 - s)
      (λ m.
      let a : whole 57 h y (n + s) ≡ bit (h / 2 ^ s) n =
      whole_low 57 h y (n + s) (omega arith) ∙ ap (bit h) (add_comm n s) ∙ sym (bit_shr h s n) in
      omega (arith, a, shifted_low v (58 - s) n nl m))
      (λ m.
      let a : whole 57 h y (n + s) ≡ bit v (n - (58 - s)) =
      whole_high 57 h y (n + s) (n - (58 - s)) (omega arith) ∙ e (n - (58 - s)) (omega arith) in
      let b : bit (h / 2 ^ s) n ≡ 0 = bit_shr h s n ∙ bit_high h 58 (s + n) hb (omega arith) in
      omega (arith, a, b, shifted_high v (58 - s) n nl m))

  -- the bits of the stream are bits
  stream_bit_lem : (y : ℕ → ℕ) → ((i : ℕ) → y i < 2) → (k : ℕ) → whole 57 h y k < 2
  stream_bit_lem y yb k =
      by_lt k 58
      (λ l. omega (arith, whole_low 57 h y k (omega arith), bit_lt h k))
      (λ l. omega (arith, whole_high 57 h y k (k - 58) (omega arith), yb (k - 58)))

  -- the history after a word is its highest 58 bits
  pub top : (w : ℕ) (y : ℕ → ℕ) → ((n : ℕ) → y n < 2) → w < 2 ^ 64 → ((i : ℕ) → i < 64 → bit w i ≡ y i) → w / 2 ^ 6 ≡ pushes 57 y h 64
  top w y yb wb e =
      same_bits 58 (w / 2 ^ 6) (pushes 57 y h 64) (omega arith) (pushes_lt 57 y yb h hb 64)
      (λ j l. bit_shr w 6 j ∙ e (6 + j) (omega arith) ∙ sym (past 57 y yb h hb 64 j (omega arith) ∙ whole_high 57 h y (64 + j) (6 + j) (omega arith)))

  module _ (p : ℕ) (pb : p < 2 ^ 64) where
    -- what payload and history alone give: the sent bits below 39
    abbrev pub known : ℕ
    known = bit_xor (bit_xor p h) (h / 2 ^ 19)

    -- the payload as it is sent, as it is worked out
    abbrev pub parallel : ℕ
    parallel = bit_xor (bit_xor known (known * 2 ^ 39 % 2 ^ 64)) (known * 2 ^ 58 % 2 ^ 64)

    known_lt : known < 2 ^ 64
    known_lt = xor_lt 64 (bit_xor p h) (h / 2 ^ 19) (xor_lt 64 p h pb (omega arith)) (omega arith)

    parallel_lt : parallel < 2 ^ 64
    parallel_lt =
        xor_lt 64 (bit_xor known (known * 2 ^ 39 % 2 ^ 64)) (known * 2 ^ 58 % 2 ^ 64)
        (xor_lt 64 known (known * 2 ^ 39 % 2 ^ 64) known_lt (mod-lt (known * 2 ^ 39) (pow_pos 64))) (mod-lt (known * 2 ^ 58) (pow_pos 64))

    known_at : (n : ℕ) → bit known n ≡ (bit p n + bit h n + bit (h / 2 ^ 19) n) % 2
    known_at n = omega (arith, bit-xor (bit_xor p h) (h / 2 ^ 19) n, bit-xor p h n)

    -- .. for none of these depends on another
    known_sent : (n : ℕ) → n < 39 → sent 57 39 (bit p) h n ≡ bit known n
    known_sent n l =
        let a : bit h (n + 19) ≡ bit (h / 2 ^ 19) n = ap (bit h) (add_comm n 19) ∙ sym (bit_shr h 19 n) in
        omega (arith, sent_own 57 39 (omega arith) (omega arith) (bit p) h n hb l, a, known_at n)

    parallel_at : (n : ℕ) → n < 64 → bit parallel n ≡ sent 57 39 (bit p) h n
    parallel_at n l =
        let a : whole 57 h (sent 57 39 (bit p) h) (n + 19) ≡ bit (h / 2 ^ 19) n + bit (known * 2 ^ 39 % 2 ^ 64) n =
        window (sent 57 39 (bit p) h) known 19 n (omega arith) l (λ i m. known_sent i (omega arith)) in
        let b : whole 57 h (sent 57 39 (bit p) h) n ≡ bit (h / 2 ^ 0) n + bit (known * 2 ^ 58 % 2 ^ 64) n =
        ap (whole 57 h (sent 57 39 (bit p) h)) (sym (add-zero n)) ∙ window (sent 57 39 (bit p) h) known 0 n (omega arith) l (λ i m. known_sent i (omega arith)) in
        let s : bit parallel n ≡ (bit p n + bit h n + bit (h / 2 ^ 19) n + bit (known * 2 ^ 39 % 2 ^ 64) n + bit (known * 2 ^ 58 % 2 ^ 64) n) % 2 =
        xor_sum _ _ n _ _ (xor_sum known _ n _ _ (known_at n) (bit_sum _ n)) (bit_sum _ n) in
        let t : bit p n + bit h n + bit (h / 2 ^ 19) n + bit (known * 2 ^ 39 % 2 ^ 64) n + bit (known * 2 ^ 58 % 2 ^ 64) n
        ≡ bit p n + whole 57 h (sent 57 39 (bit p) h) (n + 19) + whole 57 h (sent 57 39 (bit p) h) n =
        omega (arith, a, b, ap (λ (x : ℕ). bit x n) (div-one h)) in
        s ∙ ap (λ (x : ℕ). x % 2) t ∙ sym (sent_at 57 39 (bit p) h n hb (omega arith))

    -- it is the one that is defined
    pub scramble_word : parallel ≡ scrambled p h
    unfolding scrambled
    scramble_word = is_number 64 parallel (sent 57 39 (bit p) h) parallel_lt parallel_at

    -- .. and so is the history
    pub scramble_history : parallel / 2 ^ 6 ≡ history_after p h
    unfolding history_after
    scramble_history = top parallel (sent 57 39 (bit p) h) (sent_lt 57 39 (bit p) h) parallel_lt parallel_at ∙ sym (history_line 57 39 (bit p) h 64)

  module _ (w : ℕ) (wb : w < 2 ^ 64) where
    -- the payload, as it is worked out
    abbrev pub unmixed : ℕ
    unmixed = bit_xor (bit_xor w (bit_or (w * 2 ^ 39 % 2 ^ 64) (h / 2 ^ 19))) (bit_or (w * 2 ^ 58 % 2 ^ 64) h)

    unmixed_lt : unmixed < 2 ^ 64
    unmixed_lt =
        xor_lt 64 _ _
        (xor_lt 64 w _ wb (or_lt 64 _ _ (mod-lt (w * 2 ^ 39) (pow_pos 64)) (omega arith)))
        (or_lt 64 _ _ (mod-lt (w * 2 ^ 58) (pow_pos 64)) (omega arith))

    unmixed_at : (n : ℕ) → n < 64 → bit unmixed n ≡ got 57 39 (bit w) h n
    unmixed_at n l =
        let a : whole 57 h (bit w) (n + 19) ≡ bit (h / 2 ^ 19) n + bit (w * 2 ^ 39 % 2 ^ 64) n = window (bit w) w 19 n (omega arith) l (λ i m. refl) in
        let b : whole 57 h (bit w) n ≡ bit h n + bit (w * 2 ^ 58 % 2 ^ 64) n =
        ap (whole 57 h (bit w)) (sym (add-zero n)) ∙ window (bit w) w 0 n (omega arith) l (λ i m. refl) ∙ ap (λ (x : ℕ). bit x n + bit (w * 2 ^ 58 % 2 ^ 64) n) (div-one h) in
        let near = or_sum (h / 2 ^ 19) (w * 2 ^ 39 % 2 ^ 64) n _ (stream_bit_lem (bit w) (bit_lt w) (n + 19)) a in
        let far = or_sum h (w * 2 ^ 58 % 2 ^ 64) n _ (stream_bit_lem (bit w) (bit_lt w) n) b in
        xor_sum _ _ n _ _ (xor_sum w _ n _ _ (bit_sum w n) near) far ∙ sym (got_at 57 (bit w) (bit_lt w) h hb 39 n (omega arith))

    -- it is the one that is defined
    pub descramble_word : unmixed ≡ descrambled w h
    unfolding descrambled
    descramble_word = is_number 64 unmixed (got 57 39 (bit w) h) unmixed_lt unmixed_at

    -- .. and so is the history
    pub descramble_history : w / 2 ^ 6 ≡ line_after w h
    unfolding line_after
    descramble_history = top w (bit w) (bit_lt w) wb (λ i l. refl)
