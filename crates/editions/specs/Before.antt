-- Sending and receiving as they were before document 02's request 9/13, of which it says: "In the old one nothing changes." There is no kind LI,
-- no state LI and no refusal 13. Characters, fields and formats are not said anew: what reads them in the old edition reads `controls`, document
-- 01's table. Nor are scrambler, lock and error rate, which know no edition.
use Rattle.std.specs.Prelude.{ℕ, ◌+◌, ◌*◌, ◌/◌, ◌%◌, ◌^◌, Bool, true, cond, not, ◌&&◌, ◌||◌, eqb, ltb, leb, length, drop}
use mathlib.Core.List.{List, [], ◌∷◌, ◌++◌, map, flatten}
use Rattle.bits.specs.Bits.{stream_bit, cut}
use Rattle.refusals.specs.First.{Check, check, first, by_verdict}
use Rattle.scrambler.specs.Scrambler.{mirror}
use Rattle.line.specs.declared.Block.{Block}
use Rattle.block.specs.declared.Edition.TheVariants.{Old}
use Rattle.block.specs.declared.Kind.{Kind}
use Rattle.block.specs.declared.Reason.TheVariants.{Header, BlockType, ControlCode, SetCode}
use Rattle.block.specs.declared.Class.{Class}
use Rattle.block.specs.declared.Class.TheVariants.{Bad}
use Rattle.block.specs.Block.{Format, data_block, control_blocks, format_of, decoded, some, says, good, is_d, is_c, is_s, is_t, kind_in, carries, payload_for, Carrier, block, none, carrier_kind, vector_list}
use Rattle.control_bytes.specs.Control.{control_check}
use Rattle.lock.specs.Lock.{slips_of}
use Rattle.diagrams.specs.Diagram.{state_number}
use Rattle.diagrams.specs.declared.State.{State}
use Rattle.diagrams.specs.declared.State.TheVariants.{Init, Control, Data, Terminate, Error, LowPower}
use Rattle.transmit.specs.Send.{error_block, own_block, replaced_in, line_words, history_over}
use Rattle.sending.specs.Answer.{SendAnswer, sent, refused}
use Rattle.receiving.specs.Machine.{Tested, valid_of}
use Rattle.receiving.specs.Receive.{Judged, answer, judged_alone, counts_of, handed_of, run_of}
use Rattle.receiving.specs.Reasons.{Taken, taken_blocks, taken_on, taken_plain}
use Rattle.receiving.specs.Answer as Receiving
use Rattle.receiving.specs.declared.Summary.{Summary}

-- ---- kinds

-- 'Kinds', with the reasons of 1/13: a block that is not bad has the kind of its format
unfoldable pub class_before : (header payload : ℕ) → Class
class_before h x =
    cond (not (eqb h 1 || eqb h 2)) (Bad Header)
    (cond (eqb h 1 && not (some (λ f. eqb f.type (x % 2 ^ 8)) control_blocks)) (Bad BlockType)
    (cond (says Old 256 (format_of h x) x) (Bad ControlCode)
    (cond (says Old 512 (format_of h x) x) (Bad SetCode) (good (format_of h x).kind))))

-- the block that carries a vector, and the vector's kind
abbrev pub carrier_among : List Format → List ℕ → Carrier
carrier_among [] v = none
carrier_among (f ∷ fs) v = cond (carries Old v f.fields) (block f.kind f.header (payload_for Old v f)) (carrier_among fs v)

unfoldable pub carrier_before : List ℕ → Carrier
carrier_before v = carrier_among (data_block ∷ control_blocks) v

abbrev pub kind_before : List ℕ → Kind
kind_before v = carrier_kind (carrier_before v)

-- ---- diagrams

-- "after INIT, C or T, kind C goes to C, S to D, others to E"
abbrev pub idle_before : Kind → State
idle_before k = cond (is_c k) Control (cond (is_s k) Data Error)

-- "After D: D to D, T to T, others to E."
abbrev pub data_before : Kind → Bool → State
data_before k ends = cond (is_d k) Data (cond (is_t k && ends) Terminate Error)

-- "After E: C to C, D to D, T to T, E and S to E."
abbrev pub error_before : Kind → Bool → State
error_before k ends = cond (is_c k) Control (data_before k ends)

-- the step of both diagrams; there was no sixth state
abbrev pub step_before : State → Kind → Bool → State
step_before Init k ends = idle_before k
step_before Control k ends = idle_before k
step_before Data k ends = data_before k ends
step_before Terminate k ends = idle_before k
step_before Error k ends = error_before k ends
step_before LowPower k ends = Error

-- ---- sending

-- "In state E the sent block is type 1e with eight codes 1e, else the vector's own."
abbrev pub block_before : State → List ℕ → Block
block_before Error v = error_block
block_before Init v = own_block (carrier_before v)
block_before Control v = own_block (carrier_before v)
block_before Data v = own_block (carrier_before v)
block_before Terminate v = own_block (carrier_before v)
block_before LowPower v = error_block

-- over a list of vectors: the state after the last, how many are replaced, and the blocks before scrambling
unfoldable pub state_before : State → List (List ℕ) → State
state_before s [] = s
state_before s (v ∷ vs) = state_before (step_before s (kind_before v) true) vs

unfoldable pub replaced_before : State → List (List ℕ) → ℕ
replaced_before s [] = 0
replaced_before s (v ∷ vs) =
    let s' = step_before s (kind_before v) true in
    replaced_in s' + replaced_before s' vs

unfoldable pub blocks_before : State → List (List ℕ) → List Block
blocks_before s [] = []
blocks_before s (v ∷ vs) =
    let s' = step_before s (kind_before v) true in
    block_before s' v ∷ blocks_before s' vs

-- "sending 1, 2, 3, 4, 5"
abbrev pub send_checks_before : List ℕ → (start room : ℕ) → List Check
send_checks_before bytes start room =
    check 1 (ltb 1000000 (length bytes))
    ∷ check 2 (not (eqb (length bytes % 40) 0))
    ∷ check 3 (leb (2 ^ 58) start)
    ∷ check 4 (ltb room (33 * (length bytes / 40)))
    ∷ control_check bytes
    ∷ []

-- the answer, and the room afterwards
abbrev pub line_before : List ℕ → ℕ → List ℕ
line_before bytes start = cut 8 (stream_bit 66 (line_words (mirror start) (blocks_before Init (vector_list bytes)))) (33 * (length bytes / 40))

abbrev pub sent_before : List ℕ → (start : ℕ) → SendAnswer
sent_before bytes start =
    sent (mirror (history_over (mirror start) (blocks_before Init (vector_list bytes)))) (state_number (state_before Init (vector_list bytes))) (replaced_before Init (vector_list bytes))

unfoldable pub send_answer_before : List ℕ → (start room : ℕ) → SendAnswer
send_answer_before bytes start room = by_verdict (first (send_checks_before bytes start room)) (sent_before bytes start) refused

unfoldable pub send_room_before : List ℕ → ℕ → List ℕ → List ℕ
send_room_before bytes start room =
    by_verdict (first (send_checks_before bytes start (length room))) (line_before bytes start ++ drop (length (line_before bytes start)) room) (λ number place. room)

-- ---- receiving: the blocks of a line as they were taken from it, each tested with the lock and the error rate of its place

abbrev pub tested_before : Taken → Tested
tested_before t =
    record {
      on = taken_on t;
      slipped = slips_of t.link.lock (valid_of t.header);
      class = class_before t.header (taken_plain t);
      vector = decoded Old t.header (taken_plain t);
    }

-- "T to T if the next block is S or C", which "counts as E if testing it leaves the receiver not locked or high"; 6/13: a missing one counts as C
abbrev pub lets_end_before : Tested → Bool
lets_end_before t = t.on && (is_s (kind_in t.class) || is_c (kind_in t.class))

abbrev pub ends_before : List Tested → Bool
ends_before [] = true
ends_before (t ∷ ts) = lets_end_before t

-- "Not locked or high: state INIT .. Else" the diagram's step
unfoldable pub judge_before : State → List Tested → List Judged
judge_before s [] = []
judge_before s (t ∷ ts) =
    let s' = cond t.on (step_before s (kind_in t.class) (ends_before ts)) Init in
    record { state = s'; block = t } ∷ judge_before s' ts

-- of a whole line
abbrev pub tested_on : List ℕ → List Tested
tested_on line = map tested_before (taken_blocks Old line)

abbrev pub judged_on : List ℕ → List Judged
judged_on line = judge_before Init (tested_on line)

-- "receiving 1, 4"
abbrev pub receive_checks_before : (line room : ℕ) → List Check
receive_checks_before line room = check 1 (ltb 825000 line) ∷ check 4 (ltb room (10 * (8 * line / 66))) ∷ []

-- the summary, the answer, and the room afterwards
unfoldable pub summary_before : List ℕ → Summary
summary_before line =
    record {
      counts = counts_of (tested_on line);
      locked = (run_of Old line).end.link.lock.locked;
      high = (run_of Old line).end.link.rate.high;
      vectors = length (map answer (judged_on line));
      alone = judged_alone (judged_on line);
      handed = handed_of (judged_on line);
    }

unfoldable pub receive_answer_before : List ℕ → (room : ℕ) → Receiving.ReceiveAnswer
receive_answer_before line room = by_verdict (first (receive_checks_before (length line) room)) (Receiving.received (summary_before line)) Receiving.refused

abbrev pub vectors_before : List ℕ → List ℕ
vectors_before line = flatten (map answer (judged_on line))

unfoldable pub receive_room_before : (line room : List ℕ) → List ℕ
receive_room_before line room =
    by_verdict (first (receive_checks_before (length line) (length room))) (vectors_before line ++ drop (length (vectors_before line)) room) (λ number place. room)
