-- A payload after another, from the polynomial squared: (1 + x^39 + x^58)² = 1 + x^78 + x^116. Assumes nothing.
use mathlib.Core.Path.{◌≡◌, sym, ap, ap₂, ◌∙◌}
use Prim.Native.Nat.{ℕ, ◌+◌, ◌-◌, ◌*◌, ◌/◌, ◌%◌, ◌^◌, ◌≤◌, ◌<◌}
use native.Mathlib.Nat.{add_comm, mod-lt}
use native.Mathlib.Omega.{arith}
use lib.Bits.{bit_or, bit_xor, or_lt, xor_lt}
use lib.Pow.{pow_pos}
use Rattle.bits.specs.Bits.{bit}
use Rattle.bits.proofs.Laws.{bit_lt, by_lt, bit_shr, bit_high, bit_above, bit_below, shifted_low, shifted_high, bit_sum, xor_sum, is_number}
use Rattle.register.specs.Register.{sent, history, whole}
use Rattle.register.proofs.Laws.{sent_lt, sent_same, sent_add, history_same, history_line, sent_squared}
use Rattle.scrambler.specs.Scrambler.{scrambled, history_after}
use Rattle.scrambler.proofs.Laws.{bit_scrambled, history_after_lt}
use Rattle.scrambler.proofs.Words.{or_sum, window, top}

module _ (h : ℕ) (hb : h < 2 ^ 58) (p : ℕ) (pb : p < 2 ^ 64) (q : ℕ) (qb : q < 2 ^ 64) where
  -- both payloads as one input
  input : ℕ → ℕ
  input n = bit (q * 2 ^ 64 + p) n

  first : (n : ℕ) → n < 64 → input n ≡ bit p n
  unfolding input
  first n l = bit_below q 64 p n l

  second : (n : ℕ) → input (64 + n) ≡ bit q n
  unfolding input
  second n = bit_above q 64 p n pb

  -- 64 bits of it from place s on, as one word
  inputs : (s n : ℕ) → s ≤ 64 → n < 64 → bit (bit_or (q * 2 ^ (64 - s) % 2 ^ 64) (p / 2 ^ s)) n ≡ input (n + s) % 2
  unfolding input
  inputs s n sl nl =
      or_sum (p / 2 ^ s) (q * 2 ^ (64 - s) % 2 ^ 64) n (input (n + s)) (bit_lt (q * 2 ^ 64 + p) (n + s))
      (by_lt n (64 - s)
      (λ m.
      let a : input (n + s) ≡ bit (p / 2 ^ s) n = first (n + s) (omega arith) ∙ ap (bit p) (add_comm n s) ∙ sym (bit_shr p s n) in
      omega (arith, a, shifted_low q (64 - s) n nl m))
      (λ m.
      let e : n + s ≡ 64 + (n - (64 - s)) = omega arith in
      let a : input (n + s) ≡ bit q (n - (64 - s)) = ap input e ∙ second (n - (64 - s)) in
      let b : bit (p / 2 ^ s) n ≡ 0 = bit_shr p s n ∙ bit_high p 64 (s + n) pb (omega arith) in
      omega (arith, a, b, shifted_high q (64 - s) n nl m)))

  -- what is sent for the second is the scrambled second payload, after the history of the first
  next : ℕ → ℕ
  next n = sent 57 39 input h (64 + n)

  history_first : history 57 39 input h 64 ≡ history_after p h
  unfolding history_after
  history_first = history_same 57 39 input (bit p) h 64 first

  next_is : (n : ℕ) → sent 57 39 (bit q) (history_after p h) n ≡ next n
  unfolding next
  next_is n =
      sent_same 57 39 (bit q) (λ i. input (64 + i)) (history_after p h) n (λ i l. sym (second i))
      ∙ ap (λ (k : ℕ). sent 57 39 (λ i. input (64 + i)) k n) (sym history_first)
      ∙ sent_add 57 39 input h 64 n

  -- the word that the first went out as
  module _ (w : ℕ) (e : w ≡ scrambled p h) where
    -- the second as it is sent, as it is worked out
    abbrev pub squared : ℕ
    squared =
        bit_xor
        (bit_xor
        (bit_xor
        (bit_xor
        (bit_xor (bit_xor q (bit_or (q * 2 ^ 39 % 2 ^ 64) (p / 2 ^ 25))) (bit_or (q * 2 ^ 58 % 2 ^ 64) (p / 2 ^ 6)))
        (h / 2 ^ 44))
        (h / 2 ^ 6))
        (w * 2 ^ 14 % 2 ^ 64))
        (w * 2 ^ 52 % 2 ^ 64)

    squared_lt : squared < 2 ^ 64
    squared_lt =
        xor_lt 64 _ _
        (xor_lt 64 _ _
        (xor_lt 64 _ _
        (xor_lt 64 _ _
        (xor_lt 64 _ _
        (xor_lt 64 q _ qb (or_lt 64 _ _ (mod-lt (q * 2 ^ 39) (pow_pos 64)) (omega arith)))
        (or_lt 64 _ _ (mod-lt (q * 2 ^ 58) (pow_pos 64)) (omega arith)))
        (omega arith))
        (omega arith))
        (mod-lt (w * 2 ^ 14) (pow_pos 64)))
        (mod-lt (w * 2 ^ 52) (pow_pos 64))

    went : (i : ℕ) → i < 64 → sent 57 39 input h i ≡ bit w i
    went i l =
        sent_same 57 39 input (bit p) h i (λ j m. first j (omega arith)) ∙ sym (bit_scrambled p h i l) ∙ ap (λ (x : ℕ). bit x i) (sym e)

    squared_at : (n : ℕ) → n < 64 → bit squared n ≡ next n
    unfolding next
    squared_at n l =
        let y = sent 57 39 input h in
        let near : whole 57 h y (n + 44) ≡ bit (h / 2 ^ 44) n + bit (w * 2 ^ 14 % 2 ^ 64) n = window h hb y w 44 n (omega arith) l (λ i m. went i (omega arith)) in
        let far : whole 57 h y (n + 6) ≡ bit (h / 2 ^ 6) n + bit (w * 2 ^ 52 % 2 ^ 64) n = window h hb y w 6 n (omega arith) l (λ i m. went i (omega arith)) in
        let t : bit q n + input (n + 25) + input (n + 6) + bit (h / 2 ^ 44) n + bit (h / 2 ^ 6) n + bit (w * 2 ^ 14 % 2 ^ 64) n + bit (w * 2 ^ 52 % 2 ^ 64) n
        ≡ bit q n + input (n + 25) + input (n + 6) + whole 57 h y (n + 44) + whole 57 h y (n + 6) =
        omega (arith, near, far) in
        let a : 64 + n - 39 ≡ n + 25 = omega arith in
        let b : 64 + n - 58 ≡ n + 6 = omega arith in
        let c : n + 25 + 19 ≡ n + 44 = omega arith in
        xor_sum _ _ n _ _
        (xor_sum _ _ n _ _
        (xor_sum _ _ n _ _
        (xor_sum _ _ n _ _ (xor_sum _ _ n _ _ (xor_sum q _ n _ _ (bit_sum q n) (inputs 25 n (omega arith) l)) (inputs 6 n (omega arith) l)) (bit_sum _ n)) (bit_sum _ n))
        (bit_sum _ n)) (bit_sum _ n)
        ∙ ap (λ (x : ℕ). x % 2) t
        ∙ sym (
        sent_squared 57 39 input h (64 + n) hb (omega arith) (omega arith) (omega arith)
        ∙ ap₂ (λ (i j : ℕ). (input (64 + n) + input i + input j + whole 57 h y (i + 19) + whole 57 h y j) % 2) a b
        ∙ ap₂ (λ (u i : ℕ). (u + input (n + 25) + input (n + 6) + whole 57 h y i + whole 57 h y (n + 6)) % 2) (second n) c
        )

    -- it is the one that is defined
    pub next_word : squared ≡ scrambled q (history_after p h)
    unfolding scrambled
    next_word = is_number 64 squared (sent 57 39 (bit q) (history_after p h)) squared_lt (λ n l. squared_at n l ∙ sym (next_is n))

    -- .. and so is the history
    pub next_history : squared / 2 ^ 6 ≡ history_after q (history_after p h)
    unfolding history_after
    next_history =
        top (history_after p h) (history_after_lt p h hb) squared (sent 57 39 (bit q) (history_after p h)) (sent_lt 57 39 (bit q) (history_after p h)) squared_lt (λ n l. squared_at n l ∙ sym (next_is n))
        ∙ sym (history_line 57 39 (bit q) (history_after p h) 64)
