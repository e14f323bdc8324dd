-- What the receiver writes, from what receiving promises.
use Prim.Native.Nat.{ℕ, ◌*◌, ◌/◌, ◌≤◌}
use mathlib.Core.Path.{◌≡◌, refl, sym, ap, subst, ◌∙◌}
use mathlib.Core.List.{List, ◌++◌}
use native.Mathlib.Omega.{arith}
use lib.ListN.{length, drop, length-append, length-drop}
use Rattle.refusals.specs.First.{Verdict, accepted, first, by_verdict}
use Rattle.refusals.specs.First.{refused as refuses}
use Rattle.putting.specs.Overlaid.{PutsText}
use Rattle.putting.proofs.Laws.{puts_on}
use Rattle.records.specs.Record.{body_of}
use Rattle.gather.specs.Gather.{done}
use Rattle.display.specs.Display.{hex_lines, summary_lines, refused_line}
use Rattle.display.proofs.Laws.{lines_length, summary_length, refused_length}
use Rattle.bits.specs.Bits.{line_bits}
use Rattle.diagrams.specs.declared.State.TheVariants.{Init}
use Rattle.block.specs.declared.Edition.TheVariants.{Old}
use Rattle.block.specs.Block.{edition_of}
use Rattle.receiving.specs.Machine.{at, link_fresh}
use Rattle.receiving.specs.Receive.{run_of, vectors_of, received_vectors}
use Rattle.receiving.proofs.Count.{length_answers, tens_run, length_vectors, vectors_fit}
use Rattle.receiving.specs.Answer.{ReceiveAnswer, received, refused, receive_checks, summary_of, receive_answer, receive_room}
use Rattle.receiving.specs.declared.Summary.{Summary}
use Rattle.programs.specs.Programs.{received_text, receiver_text, receiver_output}
use Rattle.programs.proofs.Outcomes.{body_first, Program}

-- Each vector has ten bytes.
tens : (line : List ℕ) → length (received_vectors Old line) ≡ 10 * length (vectors_of Old line)
unfolding received_vectors vectors_of run_of
tens line = length_vectors Init (tens_run (at (link_fresh Old)) (line_bits line)) ∙ ap (λ (n : ℕ). 10 * n) (sym (length_answers Init (run_of Old line).tested))

-- An answer that is no refusal was accepted, and is the answer for the line.
accepted_by : (v : Verdict) (x : ReceiveAnswer) (z : Summary) → received z ≡ by_verdict v x refused → (v ≡ accepted) × (received z ≡ x)
accepted_by accepted x z e = (refl, e)
accepted_by (refuses m p) x z e = absurd (let z : ◌≡◌ {A = ℕ} 0 1 = cc in omega arith)

-- All that the receiver writes fits.
summary_fits : (line : List ℕ) (x : ReceiveAnswer) → length line ≤ 49500 → length (received_text line x) ≤ 126109
summary_fits line (received z) f =
    let vectors = received_vectors Old line in
    let joined = length-append (hex_lines vectors) (summary_lines z.counts.tested z.counts.slips z.locked z.high) in
    omega (arith, joined, lines_length vectors, summary_length z.counts.tested z.counts.slips z.locked z.high, vectors_fit Old line)
summary_fits line (refused n p) f = omega (arith, refused_length n)

-- The receiver.
pub receiver_program : Program receiver_text 49500 126109
unfolding receiver_text
receiver_program = record { room = omega arith; short = λ line h. summary_fits line (receive_answer 0 line 60000) h }

module _ (line vectors : List ℕ) (room : length vectors ≡ 60000) where
  module _ (after : List ℕ) (z : Summary)
      (e : received z ≡ receive_answer 0 line (length vectors)) (s : after ≡ receive_room 0 line vectors) (same : length after ≡ length vectors) where
    -- The line was accepted, and this is its answer.
    answered : (first (receive_checks 0 (length line) (length vectors)) ≡ accepted) × (received z ≡ received (summary_of Old line))
    unfolding receive_answer edition_of
    answered = accepted_by (first (receive_checks 0 (length line) (length vectors))) (received (summary_of Old line)) z e

    -- What receiving left in the room.
    room_is : after ≡ received_vectors Old line ++ drop (length (received_vectors Old line)) vectors
    unfolding receive_room edition_of
    room_is = s ∙ rw answered.0

    -- So many vectors were received.
    pub vectors_count : 10 * z.vectors ≡ length (received_vectors Old line)
    unfolding summary_of
    vectors_count =
        let a : received z ≡ received (summary_of Old line) = answered.1 in
        let s : z ≡ summary_of Old line = cc in
        let k : z.vectors ≡ length (vectors_of Old line) = ap (λ (y : Summary). y.vectors) s in
        omega (arith, tens line)

    -- They are no more than the room holds.
    pub vectors_small : 10 * z.vectors ≤ 60000
    vectors_small =
        let l = ap length room_is ∙ length-append (received_vectors Old line) (drop (length (received_vectors Old line)) vectors) in
        omega (arith, vectors_count, length-drop (length (received_vectors Old line)) vectors)

    -- Receiving succeeded: the vectors stand at the start of the room.
    vectors_are : body_of after 0 (10 * z.vectors) ≡ received_vectors Old line
    vectors_are = body_first (received_vectors Old line) (drop (length (received_vectors Old line)) vectors) after (10 * z.vectors) room_is vectors_count

    module _ (body : List ℕ) (b : body ≡ body_of after 0 (10 * z.vectors)) where
      -- Their lines fit the output.
      pub lines_fit : 21 * (length body / 10) ≤ 126000
      lines_fit = let l = ap length (b ∙ vectors_are) in omega (arith, vectors_count, vectors_small)

      module _ (out mid : List ℕ) (k : ℕ) (w : PutsText 0 (hex_lines body) out k mid) where
        -- Where their lines end.
        pub lines_end : k ≤ 126000
        lines_end = omega (arith, w.ends, lines_length body, lines_fit)

        -- The lines of the vectors and the summary are what the receiver writes.
        pub received_written : (exit : List ℕ) (r : ℕ) → 126109 ≤ length out → PutsText k (summary_lines z.counts.tested z.counts.slips z.locked z.high) mid r exit → PutsText 0 (receiver_output (done line)) out r exit
        unfolding receiver_text
        received_written exit r f v =
            let w₁ = subst (λ (x : List ℕ). PutsText 0 (hex_lines x) out k mid) (b ∙ vectors_are) w in
            subst (λ (x : ReceiveAnswer). PutsText 0 (received_text line x) out r exit) (e ∙ ap (receive_answer 0 line) room)
            (puts_on 0 k r (hex_lines (received_vectors Old line)) (summary_lines z.counts.tested z.counts.slips z.locked z.high) out mid exit w₁ v
            (omega (arith, w₁.ends, v.ends, lines_end, summary_length z.counts.tested z.counts.slips z.locked z.high)))

  -- Receiving refused: its line is what the receiver writes.
  pub refused_written : (out exit : List ℕ) (r n p : ℕ) → refused n p ≡ receive_answer 0 line (length vectors)
      → PutsText 0 (refused_line n) out r exit → PutsText 0 (receiver_output (done line)) out r exit
  unfolding receiver_text
  refused_written out exit r n p e w =
      subst (λ (x : ReceiveAnswer). PutsText 0 (received_text line x) out r exit) (e ∙ ap (receive_answer 0 line) room) w
