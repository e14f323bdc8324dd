-- Flipped bits of a line. Flips are a stream: 1 at each line bit that is flipped, 0 at the others.
use Rattle.std.specs.Prelude.{ℕ, ◌+◌, ◌-◌, ◌*◌, ◌/◌, ◌%◌, ◌≤◌, ◌<◌, ◌≡◌, cond, List, ltb, length}
use Rattle.bits.specs.Bits.{total, cut, line_bit}
use Rattle.register.specs.Register.{flip}

-- the line with those bits flipped
unfoldable pub damaged : List ℕ → (ℕ → ℕ) → List ℕ
damaged line flips = cut 8 (flip (line_bit line) flips) (length line)

-- At most `most` bits of a line are flipped, "all in block 64 or later, never both header bits of one block". Block k is the line
-- bits from 66 k on, the first two its header.
pub record Flips (most : ℕ) (line : List ℕ) (flips : ℕ → ℕ) : Type 0 where
  pub bits : (n : ℕ) → flips n < 2
  pub few : total flips (8 * length line) ≤ most
  pub late : (n : ℕ) → n < 66 * 64 → flips n ≡ 0
  pub headers : (k : ℕ) → 66 * k < 8 * length line → flips (66 * k) + flips (66 * k + 1) ≤ 1

-- Payload bits are counted without headers: payload bit n of a stream of line bits is bit n mod 64 of the payload of block n / 64.
abbrev pub payload_bit : (ℕ → ℕ) → ℕ → ℕ
payload_bit stream n = stream (66 * (n / 64) + 2 + n % 64)

-- the bit that stands d places before bit n of a stream; 0 where the stream has not begun
abbrev pub bit_before : ℕ → (ℕ → ℕ) → ℕ → ℕ
bit_before d stream n = cond (ltb n d) 0 (stream (n - d))

-- how many flipped payload bits "stand 0, 39 or 58 payload bits before" payload bit n
unfoldable pub flips_before : (ℕ → ℕ) → ℕ → ℕ
flips_before flips n = payload_bit flips n + bit_before 39 (payload_bit flips) n + bit_before 58 (payload_bit flips) n
