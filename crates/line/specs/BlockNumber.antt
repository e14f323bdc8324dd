-- A block as a number of 66 bits.
use Rattle.std.specs.Prelude.{ℕ, ◌+◌, ◌*◌}
use Rattle.line.specs.declared.Block.{Block}

-- "Block bits 0 and 1 are the header. .. Bits 2 to 65 are the payload, lowest bit of each field first."
abbrev pub block_number : Block → ℕ
block_number b = b.header + 4 * b.payload
