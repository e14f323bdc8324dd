-- What the sender writes, from what sending promises.
use Prim.Native.Nat.{ℕ, ◌*◌, ◌/◌, ◌≤◌}
use mathlib.Core.Path.{◌≡◌, refl, ap, subst, ◌∙◌}
use mathlib.Core.List.{List, ◌++◌}
use native.Mathlib.Omega.{arith}
use lib.ListN.{length, drop}
use Rattle.refusals.specs.First.{Verdict, accepted, first, by_verdict}
use Rattle.refusals.specs.First.{refused as refuses}
use Rattle.bits.proofs.Laws.{length_cut}
use Rattle.putting.specs.Overlaid.{PutsText}
use Rattle.records.specs.Record.{body_of}
use Rattle.gather.specs.Gather.{done}
use Rattle.display.specs.Display.{line_records, refused_line}
use Rattle.display.proofs.Laws.{records_length, refused_length}
use Rattle.block.specs.declared.Edition.TheVariants.{Old}
use Rattle.block.specs.Block.{edition_of}
use Rattle.transmit.specs.Send.{sent_line}
use Rattle.sending.specs.Answer.{SendAnswer, sent, refused, send_checks, send_answer, send_room}
use Rattle.programs.specs.Programs.{sent_text, sender_text, sender_output}
use Rattle.programs.proofs.Outcomes.{body_first, Program}

-- Four vectors give 33 line bytes.
line_length : (vectors : List ℕ) (start : ℕ) → length (sent_line Old vectors start) ≡ 33 * (length vectors / 40)
unfolding sent_line
line_length vectors start = length_cut 8 (33 * (length vectors / 40)) _

-- An answer that is no refusal was accepted.
accepted_by : (v : Verdict) (x : SendAnswer) (a b c : ℕ) → sent a b c ≡ by_verdict v x refused → v ≡ accepted
accepted_by accepted x a b c e = refl
accepted_by (refuses n p) x a b c e = absurd (let z : ◌≡◌ {A = ℕ} 0 1 = cc in omega arith)

-- The records of the line fit, and so does all that the sender writes.
pub records_fit : (vectors : List ℕ) → length vectors ≤ 60000 → length (line_records 4092 (sent_line Old vectors 0)) ≤ 49552
records_fit vectors h = let l = line_length vectors 0 in omega (arith, records_length (sent_line Old vectors 0))

-- The same of a refusal's line.
text_short : (vectors : List ℕ) (x : SendAnswer) → length vectors ≤ 60000 → length (sent_text vectors x) ≤ 49552
text_short vectors (sent a b c) h = records_fit vectors h
text_short vectors (refused n p) h = omega (arith, refused_length n)

-- The sender.
pub sender_program : Program sender_text 60000 49552
unfolding sender_text
sender_program = record { room = omega arith; short = λ vectors h. text_short vectors (send_answer 0 vectors 0 49500) h }

module _ (vectors line : List ℕ) (room : length line ≡ 49500) where
  -- Sending succeeded: the line stands at the start of the room.
  line_is : (after : List ℕ) (a b c : ℕ) → sent a b c ≡ send_answer 0 vectors 0 (length line) → after ≡ send_room 0 vectors 0 line → body_of after 0 (length vectors / 40 * 33) ≡ sent_line Old vectors 0
  unfolding send_answer send_room edition_of
  line_is after a b c e s =
      let v = accepted_by (first (send_checks 0 vectors 0 (length line))) _ a b c e in
      let t : after ≡ sent_line Old vectors 0 ++ drop (length (sent_line Old vectors 0)) line = s ∙ rw v in
      body_first (sent_line Old vectors 0) (drop (length (sent_line Old vectors 0)) line) after (length vectors / 40 * 33) t (omega (arith, line_length vectors 0))

  module _ (after : List ℕ) (a b c : ℕ) (e : sent a b c ≡ send_answer 0 vectors 0 (length line)) (s : after ≡ send_room 0 vectors 0 line)
      (body : List ℕ) (t : body ≡ body_of after 0 (length vectors / 40 * 33)) where
    -- What is handed on is the line.
    body_is : body ≡ sent_line Old vectors 0
    body_is = t ∙ line_is after a b c e s

    -- Its records fit the output.
    pub body_fits : length vectors ≤ 60000 → length (line_records 4092 body) ≤ 49552
    body_fits h = let l = ap (λ (x : List ℕ). length (line_records 4092 x)) body_is in omega (arith, records_fit vectors h)

    -- Its records are what the sender writes.
    pub sent_written : (out exit : List ℕ) (r : ℕ) → PutsText 0 (line_records 4092 body) out r exit → PutsText 0 (sender_output (done vectors)) out r exit
    unfolding sender_text
    sent_written out exit r w =
        subst (λ (x : SendAnswer). PutsText 0 (sent_text vectors x) out r exit) (e ∙ ap (send_answer 0 vectors 0) room)
        (subst (λ (x : List ℕ). PutsText 0 (line_records 4092 x) out r exit) body_is w)

  -- Sending refused: its line is what the sender writes.
  pub refused_written : (out exit : List ℕ) (r n p : ℕ) → refused n p ≡ send_answer 0 vectors 0 (length line)
      → PutsText 0 (refused_line n) out r exit → PutsText 0 (sender_output (done vectors)) out r exit
  unfolding sender_text
  refused_written out exit r n p e w =
      subst (λ (x : SendAnswer). PutsText 0 (sent_text vectors x) out r exit) (e ∙ ap (send_answer 0 vectors 0) room) w
