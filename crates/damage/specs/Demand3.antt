-- Demand 3: "Of the line sent for any accepted list, from any allowed start state, flip at most three bits, all in block 64 or
-- later, never both header bits of one block. A fresh receiver answers each vector from number 63 on as the error vector, or with
-- the same control flags, control characters and ordered set codes as the block that was sent; in the second case a data bit
-- differs exactly when an odd number of flipped payload bits stand 0, 39 or 58 payload bits before it." In the newer edition of document
-- 02, 9/13, at most one bit.
use Rattle.std.specs.Prelude.{ℕ, ◌+◌, ◌*◌, ◌/◌, ◌%◌, ◌≤◌, ◌<◌, ◌≡◌, List, [], ◌≢◌, ◌↔◌, ◌⊎◌, Result, Ok, length, get_or, take}
use Rattle.bits.specs.Bits.{bit}
use Rattle.refusals.specs.declared.Refused.{Refused}
use Rattle.line.specs.declared.Block.{Block}
use Rattle.block.specs.declared.Edition.{Edition}
use Rattle.block.specs.declared.Edition.TheVariants.{Old, New}
use Rattle.block.specs.Block.{edition_of, Format, format_of, decoded, error_vector, flag_of, lane_of, place_at, vectors_in}
use Rattle.transmit.specs.Send.{error_block, blocks_for, sent_line}
use Rattle.sending.specs.Answer.{Sends}
use Rattle.sending.specs.declared.Sending.{Sending}
use Rattle.receiving.specs.Receive.{vectors_of}
use Rattle.receiving.specs.Answer.{answer_of, received, summary_of, Receives}
use Rattle.receiving.specs.declared.Summary.{Summary}
use Rattle.demands.specs.Words.{SendAccepts, Unbroken}
use Rattle.damage.specs.Damage.{damaged, Flips, flips_before}

-- ---- a block that was sent, as it was before scrambling

-- its vector: the error vector for the block of state E
abbrev pub sent_vector : Edition → Block → List ℕ
sent_vector ed sent = decoded ed sent.header sent.payload

-- the bit of its payload at which the field of character p begins: after the type and the fields before that one
abbrev pub place : Block → ℕ → ℕ
place sent p =
    let format : Format = format_of sent.header sent.payload in
    format.lead + place_at format.fields p

-- ---- vector k of the receiver's beside block k of the sender's

-- "the same control flags, control characters and ordered set codes as the block that was sent": an ordered set's octet tells its code
pub record SameControl (sent v : List ℕ) : Type 0 where
  pub first_flags : get_or v 0 0 ≡ get_or sent 0 0
  pub second_flags : get_or v 5 0 ≡ get_or sent 5 0
  pub characters : (p : ℕ) → p < 8 → flag_of sent p ≡ 1 → lane_of v p ≡ lane_of sent p

-- "a data bit differs exactly when an odd number of flipped payload bits stand 0, 39 or 58 payload bits before it": bit j of character p
abbrev pub DataByFlips : Edition → (ℕ → ℕ) → ℕ → Block → List ℕ → Type 0
DataByFlips ed flips k sent v =
    (p j : ℕ) → p < 8 → j < 8 → flag_of (sent_vector ed sent) p ≡ 0
    → bit (lane_of v p) j ≢ bit (lane_of (sent_vector ed sent) p) j ↔ flips_before flips (64 * k + place sent p + j) % 2 ≡ 1

-- "as the error vector, or with the same .."
abbrev pub Answered : Edition → (ℕ → ℕ) → ℕ → Block → List ℕ → Type 0
Answered ed flips k sent v = (v ≡ error_vector) ⊎ (SameControl (sent_vector ed sent) v × DataByFlips ed flips k sent v)

-- "answers each vector from number 63 on": the receiver's vectors beside the blocks that were sent
pub record Survived (ed : Edition) (flips : ℕ → ℕ) (blocks : List Block) (vectors : List (List ℕ)) : Type 0 where
  pub one_each : 63 < length blocks → length vectors ≡ length blocks
  pub from_63 : (k : ℕ) → 63 ≤ k → k < length blocks → Answered ed flips k (get_or blocks k error_block) (get_or vectors k [])

-- ---- the demand, of at most `most` flips

-- "at most three bits"; document 02, 9/13: "with the new edition demand 3 holds for one flipped bit and not for three"
abbrev pub most_flips : Edition → ℕ
most_flips Old = 3
most_flips New = 1

-- the sentence above, "read with one edition at both ends"
abbrev pub Demand3 : (edition most : ℕ) → Type 0
Demand3 edition most =
    (bytes : List ℕ) (start room : ℕ)
    → SendAccepts edition bytes start room
    → (flips : ℕ → ℕ)
    → Flips most (sent_line (edition_of edition) bytes start) flips
    → Survived (edition_of edition) flips (blocks_for (edition_of edition) bytes)
    (vectors_of (edition_of edition) (damaged (sent_line (edition_of edition) bytes start) flips))

-- the line that stands in the room that `send` was lent, four vectors in 33 bytes
abbrev pub line_in : (room bytes : List ℕ) → List ℕ
line_in room bytes = take (33 * (length bytes / 40)) room

-- The same of the functions. `send` was lent `room`, answered success and left `room'`; bits of the line that stands there were flipped;
-- then `receive` was lent it, and room for as many bytes as were sent. It tests each block, slips nowhere and ends locked and not high.
abbrev pub Demand3OfCalls : (edition most : ℕ) → Type 0
Demand3OfCalls edition most =
    (bytes : List ℕ) (start : ℕ) (room room' : List ℕ) (s : Sending)
    → Sends edition bytes start room (Ok s) room'
    → (flips : ℕ → ℕ)
    → Flips most (line_in room' bytes) flips
    → (out out' : List ℕ) (r : Result Summary Refused)
    → Receives edition (damaged (line_in room' bytes) flips) out r out'
    → length bytes ≤ length out
    → (answer_of r ≡ received (summary_of (edition_of edition) (damaged (line_in room' bytes) flips)))
    × (63 < length (blocks_for (edition_of edition) bytes) → Unbroken (length (blocks_for (edition_of edition) bytes)) (summary_of (edition_of edition) (damaged (line_in room' bytes) flips)))
    × Survived (edition_of edition) flips (blocks_for (edition_of edition) bytes) (vectors_in (length (blocks_for (edition_of edition) bytes)) out')
