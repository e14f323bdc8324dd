-- A reviewer can skip this file. The bits since the last tested block, which the code has as a count and two words, as the list that
-- the definition of receiving has; and what is taken from the line in one turn.
use Rattle.std.specs.Prelude.{◌≡◌, Bool, true, false, cond, Some, None, List, [], ◌++◌, ℕ, ◌+◌, ◌-◌, ◌*◌, ◌^◌, ◌≤◌, ◌<◌, length, get_or, take, drop}
use Rattle.bits.specs.Bits.{bit, number, listed}
use Rattle.line.specs.declared.Block.{Block}
use Rattle.carrying.specs.declared.Carried.{Carried}
use Rattle.carrying.specs.declared.Taken.{Taken}

-- the carried bits as one number
abbrev pub word_of : Carried → ℕ
word_of c = c.header + 4 * c.payload

-- as a list, the oldest first
unfoldable pub carried_bits : Carried → List ℕ
carried_bits c = listed c.count (bit (word_of c))

-- fewer bits than a block has, and no other bit set
pub record Sound (c : Carried) : Type 0 where
  pub few : c.count < 66
  pub header : c.header < 4
  pub fits : word_of c < 2 ^ c.count

-- the bits of the block so far: those carried, and those taken
abbrev pub block_bits : List ℕ → ℕ → Carried → Taken → List ℕ
block_bits bits pos c t = carried_bits c ++ take (t.next - pos) (drop pos bits)

-- block b is full: its header and payload are those of its bits, and nothing is carried on
pub record Fills (bits : List ℕ) (pos : ℕ) (skip : Bool) (c : Carried) (b : Block) (t : Taken) : Type 0 where
  pub kept : skip ≡ false
  pub whole : length (block_bits bits pos c t) ≡ 66
  pub header : b.header ≡ number 2 (λ i. get_or (block_bits bits pos c t) i 0)
  pub payload : b.payload ≡ number 64 (λ i. get_or (block_bits bits pos c t) (2 + i) 0)
  pub none : carried_bits t.carried ≡ []

-- no block is full: one bit is skipped, or some wait with those carried
pub record Waits (bits : List ℕ) (pos : ℕ) (skip : Bool) (c : Carried) (t : Taken) : Type 0 where
  pub one : skip ≡ true → t.next ≡ pos + 1
  pub carried : carried_bits t.carried ≡ cond skip [] (block_bits bits pos c t)

-- what is taken at a place of the line, from what is carried there
pub record Takes (bits : List ℕ) (pos : ℕ) (skip : Bool) (c : Carried) (t : Taken) : Type 0 where
  pub past : pos < t.next
  pub within : t.next ≤ length bits
  pub sound : Sound t.carried
  pub fills : (b : Block) → t.block ≡ Some b → Fills bits pos skip c b t
  pub waits : t.block ≡ None → Waits bits pos skip c t
