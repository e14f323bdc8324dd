-- Document 01, 'Diagrams' (Transmit), 'Scrambler' and 'Vectors, words and line bits': the line of a list of vectors.
use Rattle.std.specs.Prelude.{ℕ, ◌+◌, ◌*◌, ◌/◌, List, [], ◌∷◌, length}
use Rattle.bits.specs.Bits.{stream_bit, cut}
use Rattle.scrambler.specs.Scrambler.{scrambled, history_after, mirror}
use Rattle.line.specs.BlockNumber.{block_number}
use Rattle.line.specs.declared.Block.{Block}
use Rattle.block.specs.declared.Edition.{Edition}
use Rattle.block.specs.Block.{vector_list, Carrier, block, none, carrier, vector_kind, error_payload}
use Rattle.diagrams.specs.Diagram.{transmit_of}
use Rattle.diagrams.specs.declared.State.{State}
use Rattle.diagrams.specs.declared.State.TheVariants.{Init, Control, Data, Terminate, Error, LowPower}

-- ---- one vector

-- "type 1e with eight codes 1e"
abbrev pub error_block : Block
error_block = record { header = 1; payload = error_payload }

-- the vector's own block; a vector that none carries leads to E, where its own block is not asked for
abbrev pub own_block : Carrier → Block
own_block (block kind header payload) = record { header = header; payload = payload }
own_block none = error_block

-- a vector sent in state E is replaced
abbrev pub replaced_in : State → ℕ
replaced_in Error = 1
replaced_in Init = 0
replaced_in Control = 0
replaced_in Data = 0
replaced_in Terminate = 0
replaced_in LowPower = 0

module _ (ed : Edition) where
  -- "In state E the sent block is type 1e with eight codes 1e, else the vector's own." 9/13: "An added state sends the vector's own block".
  unfoldable pub block_in : State → List ℕ → Block
  block_in Error v = error_block
  block_in Init v = own_block (carrier ed v)
  block_in Control v = own_block (carrier ed v)
  block_in Data v = own_block (carrier ed v)
  block_in Terminate v = own_block (carrier ed v)
  block_in LowPower v = own_block (carrier ed v)

  -- ---- a list of vectors, from a state of the transmit diagram

  -- the state after the last
  unfoldable pub state_after : State → List (List ℕ) → State
  state_after s [] = s
  state_after s (v ∷ vs) = state_after (transmit_of s (vector_kind ed v)) vs

  -- how many are replaced
  unfoldable pub replaced : State → List (List ℕ) → ℕ
  replaced s [] = 0
  replaced s (v ∷ vs) =
      let s' = transmit_of s (vector_kind ed v) in
      replaced_in s' + replaced s' vs

  -- the blocks before scrambling
  unfoldable pub sent_blocks : State → List (List ℕ) → List Block
  sent_blocks s [] = []
  sent_blocks s (v ∷ vs) =
      let s' = transmit_of s (vector_kind ed v) in
      block_in s' v ∷ sent_blocks s' vs

-- ---- scrambling, from a history of payload bits: "Only payload bits."

-- a block as it goes on the line
abbrev pub scrambled_block : Block → ℕ → Block
scrambled_block b h = record { header = b.header; payload = scrambled b.payload h }

-- the blocks on the line, 66 bits each
unfoldable pub line_words : ℕ → List Block → List ℕ
line_words h [] = []
line_words h (b ∷ bs) = block_number (scrambled_block b h) ∷ line_words (history_after b.payload h) bs

-- the history after the last
unfoldable pub history_over : ℕ → List Block → ℕ
history_over h [] = h
history_over h (b ∷ bs) = history_over (history_after b.payload h) bs

-- ---- vector bytes and a start state

module _ (ed : Edition) where
  -- the blocks sent for vector bytes: "Transmit, from INIT"
  unfoldable pub blocks_for : List ℕ → List Block
  blocks_for bytes = sent_blocks ed Init (vector_list bytes)

  -- "A block is 66 line bits, so four vectors (40 bytes) give 33 line bytes."
  unfoldable pub sent_line : List ℕ → ℕ → List ℕ
  sent_line bytes start = cut 8 (stream_bit 66 (line_words (mirror start) (blocks_for bytes))) (33 * (length bytes / 40))
