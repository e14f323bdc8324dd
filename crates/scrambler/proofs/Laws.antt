-- The laws of scrambling: there and back, starts that do not matter, flipped bits, states. Assumes nothing.
use mathlib.Core.Path.{◌≡◌, refl, sym, ap, ap₂, ◌∙◌, subst}
use mathlib.Core.List.{List, [], ◌∷◌}
use Prim.Native.Nat.{ℕ, zero, suc, ◌+◌, ◌-◌, ◌*◌, ◌/◌, ◌%◌, ◌^◌, ◌≤◌, ◌<◌}
use native.Mathlib.Omega.{arith}
use lib.ListN.{length, get_or}
use lib.Bits.{xor_zero_r}
use Rattle.bits.specs.Bits.{bit, total, stream_bit}
use Rattle.bits.proofs.Laws.{bit_lt, bit_number, number_lt, is_number, total_below, stream_lt, stream_head, stream_tail}
use Rattle.register.specs.Register.{sent, got, pushes, flip, whole}
use Rattle.register.proofs.Laws.{sent_lt, got_same, pushes_same, pushes_forget, history_line, round_trip, pushes_lt, got_lt, got_add, got_flips, changed_few as few}
use Rattle.scrambler.specs.Scrambler.{scrambled, history_after, descrambled, line_after, mirror, descrambled_all}

-- ---- bounds and bits
pub scrambled_lt : (p h : ℕ) → scrambled p h < 2 ^ 64
unfolding scrambled
scrambled_lt p h = number_lt 64 (sent 57 39 (bit p) h) (λ i l. sent_lt 57 39 (bit p) h i)

-- bit n of a scrambled payload is sent bit n
pub bit_scrambled : (p h n : ℕ) → n < 64 → bit (scrambled p h) n ≡ sent 57 39 (bit p) h n
unfolding scrambled
bit_scrambled p h n l = bit_number 64 (sent 57 39 (bit p) h) (λ i l. sent_lt 57 39 (bit p) h i) n l

-- the history after a payload has 58 bits
pub history_after_lt : (p h : ℕ) → h < 2 ^ 58 → history_after p h < 2 ^ 58
unfolding history_after
history_after_lt p h hb =
    subst (λ (x : ℕ). x < 2 ^ 58) (sym (history_line 57 39 (bit p) h 64)) (pushes_lt 57 (sent 57 39 (bit p) h) (sent_lt 57 39 (bit p) h) h hb 64)

-- .. at the receiver too
pub line_after_lt : (w h : ℕ) → h < 2 ^ 58 → line_after w h < 2 ^ 58
unfolding line_after
line_after_lt w h hb = pushes_lt 57 (bit w) (bit_lt w) h hb 64

-- a descrambled payload has 64 bits
pub descrambled_lt : (w h : ℕ) → descrambled w h < 2 ^ 64
unfolding descrambled
descrambled_lt w h = number_lt 64 (got 57 39 (bit w) h) (λ i l. got_lt 57 39 (bit w) h i)

-- bit n of a descrambled payload is received bit n
pub bit_descrambled : (w h n : ℕ) → n < 64 → bit (descrambled w h) n ≡ got 57 39 (bit w) h n
unfolding descrambled
bit_descrambled w h n l = bit_number 64 (got 57 39 (bit w) h) (λ i l. got_lt 57 39 (bit w) h i) n l

-- ---- one payload, there and back
-- sender and receiver keep the same history
pub line_scrambled : (p h : ℕ) → line_after (scrambled p h) h ≡ history_after p h
unfolding line_after history_after
line_scrambled p h = pushes_same 57 (bit (scrambled p h)) (sent 57 39 (bit p) h) h 64 (bit_scrambled p h) ∙ sym (history_line 57 39 (bit p) h 64)

-- after one whole block the receiver's start does not matter
pub line_after_forget : (w h k : ℕ) → h < 2 ^ 58 → k < 2 ^ 58 → line_after w h ≡ line_after w k
unfolding line_after
line_after_forget w h k hb kb = pushes_forget 57 (bit w) (bit_lt w) h k 64 hb kb (omega arith)

-- descrambling what was scrambled from the same history gives the payload back
pub descrambled_scrambled : (p h : ℕ) → p < 2 ^ 64 → descrambled (scrambled p h) h ≡ p
unfolding descrambled
descrambled_scrambled p h pb =
    sym
    (is_number 64 p (got 57 39 (bit (scrambled p h)) h) pb
    (λ n l.
    sym
    (got_same 57 39 (bit (scrambled p h)) (sent 57 39 (bit p) h) h n (λ i m. bit_scrambled p h i (omega arith))
    ∙ round_trip 57 39 (bit p) h n (bit_lt p n))))

-- ---- payload after payload
-- as many are received as words came
pub length_descrambled_all : (ws : List ℕ) (h : ℕ) → length (descrambled_all ws h) ≡ length ws
unfolding descrambled_all
length_descrambled_all [] h = refl
length_descrambled_all (w ∷ ws) h = ap suc (length_descrambled_all ws (line_after w h))

-- ---- the words as one stream: document 01's rule goes on from block to block
-- a word and those after it, as one stream
line_after_stream : (w : ℕ) (ws : List ℕ) (h : ℕ) → line_after w h ≡ pushes 57 (stream_bit 64 (w ∷ ws)) h 64
unfolding line_after
line_after_stream w ws h = pushes_same 57 (bit w) (stream_bit 64 (w ∷ ws)) h 64 (λ i l. sym (stream_head 64 w ws i l))

-- bit i of received payload k is received bit 64 k + i of the stream
pub descrambled_stream : (ws : List ℕ) (h k i : ℕ) → k < length ws → i < 64
    → bit (get_or (descrambled_all ws h) k 0) i ≡ got 57 39 (stream_bit 64 ws) h (64 * k + i)
unfolding descrambled_all
descrambled_stream [] h k i l m = absurd (omega arith)
descrambled_stream (w ∷ ws) h zero i l m =
    let e : i ≡ 64 * 0 + i = omega arith in
    bit_descrambled w h i m ∙ got_same 57 39 (bit w) (stream_bit 64 (w ∷ ws)) h i (λ j q. sym (stream_head 64 w ws j (omega arith)))
    ∙ ap (got 57 39 (stream_bit 64 (w ∷ ws)) h) e
descrambled_stream (w ∷ ws) h (suc k) i l m =
    let e : 64 + (64 * k + i) ≡ 64 * suc k + i = omega arith in
    descrambled_stream ws (line_after w h) k i (omega arith) m
    ∙ ap (λ (z : ℕ). got 57 39 (stream_bit 64 ws) z (64 * k + i)) (line_after_stream w ws h)
    ∙ got_same 57 39 (stream_bit 64 ws) (λ n. stream_bit 64 (w ∷ ws) (64 + n)) (pushes 57 (stream_bit 64 (w ∷ ws)) h 64) (64 * k + i) (λ j q. sym (stream_tail 64 w ws j (omega arith)))
    ∙ got_add 57 39 (stream_bit 64 (w ∷ ws)) h 64 (64 * k + i) ∙ ap (got 57 39 (stream_bit 64 (w ∷ ws)) h) e

-- the received payloads as one stream are the stream that is received
pub stream_descrambled : (ws : List ℕ) (h n : ℕ) → n < 64 * length ws → stream_bit 64 (descrambled_all ws h) n ≡ got 57 39 (stream_bit 64 ws) h n
unfolding stream_bit
stream_descrambled ws h n l =
    let e : 64 * (n / 64) + n % 64 ≡ n = omega arith in
    descrambled_stream ws h (n / 64) (n % 64) (omega arith) (omega arith) ∙ ap (got 57 39 (stream_bit 64 ws) h) e

-- ---- flips of the line, a stream: its payload bits flipped where f is 1
module _ (ws vs : List ℕ) (f : ℕ → ℕ) (fb : (n : ℕ) → f n < 2) (same : length vs ≡ length ws)
    (flipped : (n : ℕ) → n < 64 * length ws → stream_bit 64 vs n ≡ flip (stream_bit 64 ws) f n) (h : ℕ) (hb : h < 2 ^ 58) where
  got_flipped : (n : ℕ) → n < 64 * length ws → stream_bit 64 (descrambled_all vs h) n ≡ got 57 39 (flip (stream_bit 64 ws) f) h n
  got_flipped n l =
      stream_descrambled vs h n (omega arith) ∙ got_same 57 39 (stream_bit 64 vs) (flip (stream_bit 64 ws) f) h n (λ i m. flipped i (omega arith))

  -- a received bit is xored with the number of flips 0, 39 and 58 places before it
  pub stream_flips : (n : ℕ) → n < 64 * length ws
      → stream_bit 64 (descrambled_all vs h) n ≡ (stream_bit 64 (descrambled_all ws h) n + (f n + whole 57 0 f (n + 19) + whole 57 0 f n)) % 2
  stream_flips n l =
      got_flipped n l ∙ ap (λ (k : ℕ). got 57 39 (flip (stream_bit 64 ws) f) k n) (sym (xor_zero_r h))
      ∙ got_flips 57 39 (stream_bit 64 ws) f (stream_lt 64 ws) fb h 0 hb (omega arith) (omega arith) n
      ∙ ap (λ (x : ℕ). (x + (f n + whole 57 0 f (n + 19) + whole 57 0 f n)) % 2) (sym (stream_descrambled ws h n l))

  -- in any window of at most 19 bits no more bits change than were flipped
  pub changed_few : (j w : ℕ) → w ≤ 19 → j + w ≤ 64 * length ws
      → total (λ i. (stream_bit 64 (descrambled_all vs h) (j + i) + stream_bit 64 (descrambled_all ws h) (j + i)) % 2) w ≤ total f (j + w)
  changed_few j w l m =
      omega (
        arith,
        few 57 39 f fb (omega arith) (stream_bit 64 ws) (stream_lt 64 ws) h hb j w (omega arith) (omega arith),
        total_below (λ i. (stream_bit 64 (descrambled_all vs h) (j + i) + stream_bit 64 (descrambled_all ws h) (j + i)) % 2)
            (λ i. (got 57 39 (flip (stream_bit 64 ws) f) h (j + i) + got 57 39 (stream_bit 64 ws) h (j + i)) % 2) w
            (λ i q. ap₂ (λ (u v : ℕ). (u + v) % 2) (got_flipped (j + i) (omega arith)) (stream_descrambled ws h (j + i) (omega arith))),
      )

-- ---- start and end states
pub mirror_lt : (s : ℕ) → mirror s < 2 ^ 58
unfolding mirror
mirror_lt s = number_lt 58 (λ j. bit s (57 - j)) (λ i l. bit_lt s (57 - i))
