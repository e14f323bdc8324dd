-- Demand 2, the round trip. For every list of vectors that sending accepts, from any start state that it allows, that is legal and whose
-- first 64 vectors are control vectors: a fresh receiver over the sent line gives 63 Local Fault vectors and then the list from vector 63
-- on, unchanged; tested is the number of vectors, slips 0, locked 1 and high 0. (Document 02, 6/13: "Demand 2's condition on the last vector is
-- dropped"; 9/13: "read with one edition at both ends".)
use Rattle.std.specs.Prelude.{ℕ, ◌*◌, ◌/◌, ◌≤◌, ◌≡◌, true, Result, Ok, length, take, drop, replicate}
use mathlib.Core.List.{List, ◌++◌, flatten}
use Rattle.refusals.specs.declared.Refused.{Refused}
use Rattle.block.specs.declared.Edition.{Edition}
use Rattle.block.specs.Block.{edition_of, local_fault_vector, vector_list}
use Rattle.transmit.specs.Send.{sent_line}
use Rattle.sending.specs.Answer.{Sends}
use Rattle.sending.specs.declared.Sending.{Sending}
use Rattle.receiving.specs.Receive.{received_vectors, vectors_of}
use Rattle.receiving.specs.Answer.{summary_of, Receives}
use Rattle.receiving.specs.declared.Summary.{Summary}
use Rattle.demands.specs.Words.{SendAccepts, legal, control_vectors, Unbroken}

-- the lists that the demand speaks of: legal, the first 64 control vectors (so there are 64)
pub record Returnable (ed : Edition) (vectors : List (List ℕ)) : Type 0 where
  pub is_legal : legal ed vectors ≡ true
  pub long : 64 ≤ length vectors
  pub starts_with_control : control_vectors ed (take 64 vectors) ≡ true

-- 63 Local Fault vectors
abbrev pub faults : List (List ℕ)
faults = replicate 63 local_fault_vector

-- what a fresh receiver gives for the line that was sent: its vectors, their bytes, and what it returns
pub record Returned (ed : Edition) (bytes : List ℕ) (start : ℕ) : Type 0 where
  pub vectors : vectors_of ed (sent_line ed bytes start) ≡ faults ++ drop 63 (vector_list bytes)
  pub octets : received_vectors ed (sent_line ed bytes start) ≡ flatten faults ++ drop 630 bytes
  pub summary : Unbroken (length (vector_list bytes)) (summary_of ed (sent_line ed bytes start))

-- the demand
abbrev pub Demand2 : Type 0
Demand2 =
    (edition : ℕ) (bytes : List ℕ) (start room : ℕ) → SendAccepts edition bytes start room → Returnable (edition_of edition) (vector_list bytes)
    → Returned (edition_of edition) bytes start

-- The same of the functions. `send` was lent `room`, answered success and left `room'`; then `receive` was lent the line that stands
-- there, four vectors in 33 bytes, and room for as many bytes as were sent.
abbrev pub Demand2OfCalls : Type 0
Demand2OfCalls =
    (edition : ℕ) (bytes : List ℕ) (start : ℕ) (room room' : List ℕ) (s : Sending)
    → Sends edition bytes start room (Ok s) room'
    → Returnable (edition_of edition) (vector_list bytes)
    → (out out' : List ℕ) (r : Result Summary Refused)
    → Receives edition (take (33 * (length bytes / 40)) room') out r out'
    → length bytes ≤ length out
    → (r ≡ Ok (summary_of (edition_of edition) (sent_line (edition_of edition) bytes start)))
    × Unbroken (length (vector_list bytes)) (summary_of (edition_of edition) (sent_line (edition_of edition) bytes start))
    × (out' ≡ flatten faults ++ drop 630 bytes ++ drop (length bytes) out)
