-- Document 01, 'The two programs': the bytes that each writes, by what it gathered. Both stay with the old edition, number 0 (9/13).
use Rattle.std.specs.Prelude.{ℕ, List, [], ◌++◌, Result, Ok, Err}
use Rattle.refusals.specs.Number.{number_of}
use Rattle.putting.specs.Overlaid.{PutsText}
use Rattle.records.specs.Record.{body_limit, body_of}
use Rattle.gather.specs.Gather.{Gathered, more, done, stop, failed, RecordRead}
use Rattle.gather.specs.File.{gathered_from, gathered_after, InTurn}
use Rattle.gather.specs.declared.Step.{Step}
use Rattle.gather.specs.declared.Step.TheVariants as Case
use Rattle.gather.specs.declared.Stop.{Stop}
use Rattle.gather.specs.declared.Stop.TheVariants as Why
use Rattle.display.specs.Display.{line_records, hex_lines, summary_lines, refused_line, input_failed_line}
use Rattle.block.specs.declared.Edition.TheVariants.{Old}
use Rattle.transmit.specs.Send.{sent_line}
use Rattle.sending.specs.Answer.{SendAnswer, sent, refused, send_answer}
use Rattle.receiving.specs.Receive.{received_vectors}
use Rattle.receiving.specs.Answer.{ReceiveAnswer, received, receive_answer}
use Rattle.receiving.specs.Answer.{refused as receiveRefused}

-- "Each gathers at most 49,500 line bytes or 60,000 vector bytes"
abbrev pub vector_limit : ℕ
vector_limit = 60000

abbrev pub line_limit : ℕ
line_limit = 49500

-- what either program writes: its text of the bytes that it gathered; "a refusal prints one line and nothing else"; so does a failed read, and no
-- end in 2^64 - 1 records
abbrev pub output_of : (text : List ℕ → List ℕ) → Gathered → List ℕ
output_of text (done bytes) = text bytes
output_of text (stop number before) = refused_line number
output_of text (failed before) = input_failed_line
output_of text (more before) = input_failed_line

-- "one line record after another of 4,092 bytes"; or a refusal's line
abbrev pub sent_text : (vectors : List ℕ) → SendAnswer → List ℕ
sent_text vectors (sent endState diagram replaced) = line_records 4092 (sent_line Old vectors 0)
sent_text vectors (refused number place) = refused_line number

-- the sender: "start state 0"
unfoldable pub sender_text : (vectors : List ℕ) → List ℕ
sender_text vectors = sent_text vectors (send_answer 0 vectors 0 line_limit)

abbrev pub sender_output : Gathered → List ℕ
sender_output = output_of sender_text

-- "prints each vector as 20 hex digits, then four lines"; or a refusal's line
abbrev pub received_text : (line : List ℕ) → ReceiveAnswer → List ℕ
received_text line (received s) = hex_lines (received_vectors Old line) ++ summary_lines s.counts.tested s.counts.slips s.locked s.high
received_text line (receiveRefused number place) = refused_line number

-- the receiver
unfoldable pub receiver_text : (line : List ℕ) → List ℕ
receiver_text line = received_text line (receive_answer 0 line vector_limit)

abbrev pub receiver_output : Gathered → List ℕ
receiver_output = output_of receiver_text

-- each on a whole file: the sender takes records of kind 1, the receiver of kind 2
unfoldable pub sender_on : (file : List ℕ) → List ℕ
sender_on file = sender_output (gathered_from body_limit 1 vector_limit file)

unfoldable pub receiver_on : (file : List ℕ) → List ℕ
receiver_on file = receiver_output (gathered_from body_limit 2 line_limit file)

-- what was gathered, by the last step and the store
abbrev pub gathered_of : Result Step Stop → (store : List ℕ) → Gathered
gathered_of (Ok (Case.Done n)) store = done (body_of store 0 n)
gathered_of (Ok (Case.More n)) store = more []
gathered_of (Err (Why.Refused why)) store = stop (number_of why) []
gathered_of (Err Why.Failed) store = failed []

-- what reading and writing leave of a program: these reads were made in turn, and this is what is written for them
pub record PutsForReads (kind most : ℕ) (output : Gathered → List ℕ) (entry : List ℕ) (r : ℕ) (exit : List ℕ) : Type 0 where
  pub reads : List RecordRead
  pub in_turn : InTurn body_limit kind most reads (more [])
  pub written : PutsText 0 (output (gathered_after body_limit kind most reads (more []))) entry r exit
