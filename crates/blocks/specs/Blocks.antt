-- A reviewer can skip this file. Blocks as they stand on the line.
use Rattle.std.specs.Prelude.{◌≡◌, List, ℕ, ◌+◌, ◌*◌}
use Rattle.bits.specs.Bits.{number, line_bit}
use Rattle.blocks.specs.declared.Four.{Four}

-- "Block bits 0 and 1 are the header. .. Bits 2 to 65 are the payload, lowest bit of each field first.": of the block at line bit pos
abbrev pub header_at : List ℕ → ℕ → ℕ
header_at line pos = number 2 (λ i. line_bit line (pos + i))

abbrev pub payload_at : List ℕ → ℕ → ℕ
payload_at line pos = number 64 (λ i. line_bit line (pos + 2 + i))

-- the headers of four blocks from pos on, two bits each
abbrev pub headers_at : List ℕ → ℕ → ℕ
headers_at line pos = header_at line pos + header_at line (pos + 66) * 4 + header_at line (pos + 132) * 16 + header_at line (pos + 198) * 64

-- .. and their payloads
pub record Fours (line : List ℕ) (pos : ℕ) (r : Four) : Type 0 where
  pub headers : r.headers ≡ headers_at line pos
  pub a : r.a ≡ payload_at line pos
  pub b : r.b ≡ payload_at line (pos + 66)
  pub c : r.c ≡ payload_at line (pos + 132)
  pub d : r.d ≡ payload_at line (pos + 198)
