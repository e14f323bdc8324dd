-- A whole line, from a fresh receiver to the vector of the last block. Assumes nothing.
use Prim.Native.Nat.{ℕ, ◌+◌, ◌*◌, ◌/◌, ◌≤◌}
use mathlib.Core.Path.{◌≡◌, sym, ap, ap₂, ◌∙◌}
use mathlib.Core.Bool.{Bool, true}
use mathlib.Core.List.{List, ◌++◌, append_assoc}
use native.Mathlib.Omega.{arith}
use lib.ListN.{length, take, drop, length-append}
use lib.Seq.{drop-drop, length-take-le}
use Rattle.bits.specs.Bits.{line_bits}
use Rattle.block.specs.declared.Edition.{Edition}
use Rattle.diagrams.specs.declared.State.{State}
use Rattle.diagrams.specs.declared.State.TheVariants.{Init}
use Rattle.receiving.specs.Machine.{Feed, Run, Tested, run}
use Rattle.receiving.specs.Receive.{judge, judged_alone, answers, counts_of, handed_of, run_of, judged_of, vectors_of, received_vectors}
use Rattle.receiving.specs.Answer.{summary_of}
use Rattle.receiving.specs.Parts.{settle, bytes_of, Settled, none_handed, plus_handed}
use Rattle.receiving.specs.Loop.{held_in, feed_in, Fresh, Ends, written_by, held_bytes, held_handed, held_alone}
use Rattle.receiving.specs.declared.Handed.{Handed}
use Rattle.receiving.specs.declared.Summary.{Summary}
use Rattle.receiving.specs.declared.Receiver.{Receiver}
use Rattle.receiving.specs.declared.Progress.{Progress}
use Rattle.receiving.proofs.Count.{length_answers, vectors_fit}
use Rattle.receiving.proofs.Counted.{hand_first, hand_append}
use Rattle.receiving.proofs.Settle.{held_same, settled, last_bytes, bytes_append, alone_settled, alone_held, handed_held}

module _ (ed : Edition) (line room : List ℕ) (r : Receiver) (f : Fresh ed r) (enough : 10 * (8 * length line / 66) ≤ length room) where
  -- a fresh receiver's run is that of the definition
  run_is : run (feed_in r) (line_bits line) ≡ run_of ed line
  unfolding run_of
  run_is = ap (λ (z : Feed). run z (line_bits line)) f.feed

  -- all blocks of the line but the last, settled
  abbrev σ : Settled
  σ = settle Init (run_of ed line).tested

  -- and so is what it settles
  settle_is : settle r.state (held_in r ++ (run (feed_in r) (line_bits line)).tested) ≡ σ
  settle_is =
      ap (λ (s : State). settle s (held_in r ++ (run (feed_in r) (line_bits line)).tested)) f.state
      ∙ ap (λ (h : List Tested). settle Init (h ++ (run (feed_in r) (line_bits line)).tested)) f.held
      ∙ ap (λ (z : Run). settle Init z.tested) run_is

  -- the vectors of the line: those settled, and that of the last block
  all_bytes : received_vectors ed line ≡ bytes_of σ.judged ++ bytes_of (judge σ.state σ.held)
  unfolding received_vectors vectors_of answers
  all_bytes = ap bytes_of (settled Init (run_of ed line).tested) ∙ bytes_append σ.judged (judge σ.state σ.held)

  -- what the loop writes fits the room
  pub written_fits : length (written_by r line) ≤ length room
  written_fits =
      omega (
        arith,
        ap (λ (z : Settled). length (bytes_of z.judged)) settle_is,
        ap length all_bytes,
        length-append (bytes_of σ.judged) (bytes_of (judge σ.state σ.held)),
        vectors_fit ed line,
      )

  module _ (room₁ : List ℕ) (p : Progress) (e : Ends line room room₁ r p) where
    -- the bytes of the last block
    abbrev pub last : List ℕ
    last = held_bytes p.receiver.have p.receiver.state p.receiver.held true

    -- the vectors of the line: what the loop wrote, and these
    all_are : received_vectors ed line ≡ take p.at room₁ ++ last
    unfolding held_in
    all_are =
        all_bytes
        ∙ ap₂ (λ (x : List ℕ) (z : Settled). x ++ bytes_of (judge z.state z.held))
        (sym (e.bytes ∙ ap (λ (z : Settled). bytes_of z.judged) settle_is)) (sym settle_is)
        ∙ ap₂ (λ (s : State) (h : List Tested). take p.at room₁ ++ bytes_of (judge s h)) (sym e.state) (sym e.held)
        ∙ ap (λ (l : List ℕ). take p.at room₁ ++ l) (last_bytes p.receiver.have p.receiver.state p.receiver.held)

    -- how many bytes that is
    all_length : length (received_vectors ed line) ≡ p.at + length last
    all_length =
        ap length all_are ∙ length-append (take p.at room₁) last
        ∙ ap (λ (n : ℕ). n + length last) (length-take-le p.at room₁ (omega (arith, e.at, e.len)))

    -- the last vector fits the room, whichever it is
    pub last_fits : (ends : Bool) → p.at + length (held_bytes p.receiver.have p.receiver.state p.receiver.held ends) ≤ length room₁
    last_fits ends =
        omega (arith, all_length, vectors_fit ed line, e.len, held_same p.receiver.have p.receiver.state p.receiver.held ends true)

    -- the room, once it is written
    pub room_is : (room₂ : List ℕ) → room₂ ≡ take p.at room₁ ++ (last ++ drop (p.at + length last) room₁)
        → room₂ ≡ received_vectors ed line ++ drop (length (received_vectors ed line)) room
    room_is room₂ er =
        er ∙ sym (append_assoc (take p.at room₁) last (drop (p.at + length last) room₁))
        ∙ ap₂ (λ (a b : List ℕ). a ++ b) (sym all_are)
        (sym (drop-drop (length last) p.at room₁) ∙ ap (drop (length last)) e.rest ∙ drop-drop (length last) p.at room
        ∙ ap (λ (n : ℕ). drop n room) (sym all_length))

    -- whether the last block is judged alone
    alone_is : (alone : Bool) → alone ≡ held_alone p.receiver.have p.receiver.state p.receiver.held → alone ≡ judged_alone (judged_of ed line)
    unfolding held_in
    alone_is alone ea =
        ea ∙ alone_held p.receiver.have p.receiver.state p.receiver.held
        ∙ ap₂ (λ (z : State) (h : List Tested). judged_alone (judge z h)) e.state e.held
        ∙ ap (λ (z : Settled). judged_alone (judge z.state z.held)) settle_is
        ∙ sym (alone_settled Init (run_of ed line).tested)

    -- what the vectors are counted for
    handed_is : (n : Handed) → n ≡ held_handed p.receiver.have p.handed p.receiver.state p.receiver.held true → n ≡ handed_of (judged_of ed line)
    unfolding held_in
    handed_is n en =
        en ∙ handed_held p.receiver.have p.handed p.receiver.state p.receiver.held
        ∙ ap₂ (λ (z : State) (h : List Tested). plus_handed p.handed (handed_of (judge z h))) e.state e.held
        ∙ ap₂ (λ (z : Handed) (x : Settled). plus_handed z (handed_of (judge x.state x.held))) (e.handed ∙ ap (λ (x : Settled). handed_of x.judged) settle_is) settle_is
        ∙ ap (λ (z : Handed). plus_handed z (handed_of (judge σ.state σ.held))) (sym (hand_first (handed_of σ.judged)))
        ∙ sym (hand_append none_handed σ.judged (judge σ.state σ.held))
        ∙ hand_first (handed_of (σ.judged ++ judge σ.state σ.held))
        ∙ ap handed_of (sym (settled Init (run_of ed line).tested))

    -- the summary is that of the definition
    pub summary_is : (alone : Bool) (n : Handed) → alone ≡ held_alone p.receiver.have p.receiver.state p.receiver.held
        → n ≡ held_handed p.receiver.have p.handed p.receiver.state p.receiver.held true
        → ◌≡◌ {A = Summary}
        (record { counts = p.counts; locked = p.receiver.link.lock.locked; high = p.receiver.link.rate.high; vectors = p.counts.tested; alone = alone; handed = n })
        (summary_of ed line)
    unfolding summary_of counts_of vectors_of feed_in
    summary_is alone n ea en =
        let c : p.counts ≡ counts_of (run_of ed line).tested = e.counts ∙ ap (λ (z : Run). counts_of z.tested) run_is in
        let l : p.receiver.link ≡ (run_of ed line).end.link = ap (λ (z : Feed). z.link) e.feed ∙ ap (λ (z : Run). z.end.link) run_is in
        rw (c, l, length_answers, alone_is alone ea, handed_is n en)
