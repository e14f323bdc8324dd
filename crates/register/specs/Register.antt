-- A shift register of m + 1 bits with taps a and m + 1: a bit on the line is an input bit xor the line bits a and m + 1
-- places before it. The scrambler is m = 57, a = 39; PRBS31 is m = 30, a = 28.
use Rattle.std.specs.Prelude.{cond, ◌≡◌, ℕ, zero, suc, ◌+◌, ◌-◌, ◌*◌, ◌/◌, ◌%◌, ◌^◌, ◌<◌, ltb}
use Rattle.bits.specs.Bits.{bit}

-- A history h is a number of m + 1 bits: the last m + 1 bits on the line, in line order, the oldest at bit 0.
module _ (m : ℕ) where
  -- the history once one more bit is on the line
  unfoldable pub push : ℕ → ℕ → ℕ
  push h b = h / 2 + b * 2 ^ m

  -- the history once bits 0 .. n - 1 of the line y are
  unfoldable pub pushes : (ℕ → ℕ) → ℕ → ℕ → ℕ
  pushes y h zero = h
  pushes y h (suc n) = push (pushes y h n) (y n)

  -- the history, and the line after it, as one stream: line bit n is at m + 1 + n
  unfoldable pub whole : ℕ → (ℕ → ℕ) → ℕ → ℕ
  whole h y k = cond (ltb k (suc m)) (bit h k) (y (k - suc m))

module _ (m a : ℕ) where
  -- a bit xor the bits a and m + 1 places before it
  unfoldable pub mix : ℕ → ℕ → ℕ
  mix h x = (x + bit h (suc m - a) + bit h 0) % 2

  -- sending the input x: the history after n bits
  unfoldable pub history : (ℕ → ℕ) → ℕ → ℕ → ℕ
  history x h zero = h
  history x h (suc n) = push m (history x h n) (mix (history x h n) (x n))

  -- .. and sent bit n
  unfoldable pub sent : (ℕ → ℕ) → ℕ → ℕ → ℕ
  sent x h n = mix (history x h n) (x n)

  -- k bits can be sent at once: each follows from the history and its own input bit, whatever the other input bits are
  abbrev pub Stride : ℕ → Type 0
  Stride k = (x z : ℕ → ℕ) (h n : ℕ) → h < 2 ^ suc m → n < k → x n ≡ z n → sent x h n ≡ sent z h n

  -- receiving the line y: received input bit n
  unfoldable pub got : (ℕ → ℕ) → ℕ → ℕ → ℕ
  got y h n = mix (pushes m y h n) (y n)

-- the line y with the bits flipped at which f is 1
unfoldable pub flip : (ℕ → ℕ) → (ℕ → ℕ) → ℕ → ℕ
flip y f n = (y n + f n) % 2
