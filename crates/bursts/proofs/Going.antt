-- An accepted burst and an accepted closing call, from the receiver that the state means; a refused one; and either of
-- the two. Assumes nothing.
use Prim.Native.Nat.{ℕ, ◌+◌, ◌*◌, ◌/◌, ◌≤◌}
use mathlib.Core.Path.{◌≡◌, refl, sym, ap, ap₂, ◌∙◌, subst}
use mathlib.Core.Bool.{Bool, true, false, cond}
use mathlib.Core.List.{List, [], ◌++◌}
use native.Mathlib.Omega.{arith}
use native.Mathlib.Nat.{zero-add}
use lib.ListN.{length, take, drop, length-append, length-drop, take-append-drop}
use lib.Seq.{length-take-le}
use Rattle.bits.specs.Bits.{line_bits}
use Rattle.bits.proofs.Lists.{length_line_bits}
use Rattle.block.specs.Block.{edition_of}
use Rattle.diagrams.specs.Diagram.{state_number}
use Rattle.diagrams.specs.declared.State as Diagram
use Rattle.refusals.specs.First.{accepted, refused}
use Rattle.receiving.specs.Machine.{Tested, Feed, Run, run}
use Rattle.receiving.specs.Receive.{judge, judged_alone, counts_of, handed_of}
use Rattle.receiving.specs.Parts.{Settled, settle, bytes_of, no_counts, plus, none_handed, plus_handed}
use Rattle.receiving.specs.Counted.{Within, HandedWithin}
use Rattle.receiving.specs.Loop as Loop
use Rattle.receiving.specs.Loop.{Ends, written_by, held_bytes, held_handed, held_alone}
use Rattle.receiving.specs.Answer.{received, answer_of}
use Rattle.receiving.specs.Answer as Answer
use Rattle.receiving.specs.declared.Counts.{Counts}
use Rattle.receiving.specs.declared.Handed.{Handed}
use Rattle.receiving.specs.declared.Receiver.{Receiver}
use Rattle.receiving.specs.declared.Progress.{Progress}
use Rattle.receiving.proofs.Each.{each_append}
use Rattle.receiving.proofs.Count.{tested_bits, tens_run}
use Rattle.receiving.proofs.Counted.{hand_first, counts_few, handed_few, within_wide, handed_wide}
use Rattle.receiving.proofs.Settle.{settle_count, settle_tens, judge_length, judge_tens, last_bytes, alone_held, handed_held}
use Rattle.kept_state.specs.declared.State.{State}
use Rattle.bursts.specs.declared.Reply.{Reply}
use Rattle.kept_state.specs.Meaning.{feed_meant, diagram_meant, held_by, held_meant, carried_for, kept_for, have_for}
use Rattle.judging.specs.Judging.{burst_verdict}
use Rattle.bursts.specs.Burst.{run_from, settled_from, burst_bytes, burst_added, burst_state, close_judged, close_added, close_state, summary_in, refuses, at_start, burst_call, close_call, Replies}
use Rattle.kept_state.specs.Coded.{WithinLimits, Means}
use Rattle.advancing.specs.Coded.{SumsFit, progressed, closed_with}
use Rattle.kept_state.proofs.Storing.{bits_count, held_tens, few_in}
use Rattle.bad_states.proofs.Limits.{within_limits}
use Rattle.judging.proofs.Checks.{Passed, passed_all}
use Rattle.kept_state.proofs.Coding.{carried_is, have_is}

-- whether a block is held, by the list
held_have : (r : Receiver) → r.have ≡ have_for (Loop.held_in r)
unfolding Loop.held_in
held_have r = have_is r.have r.held

-- ---- a burst

module _ (s : State) (line room : List ℕ) (v : burst_verdict s (length line) (length room) ≡ accepted) where
  -- what the checks say
  pub passed : Passed s (length line) (length room)
  passed = passed_all s (length line) (length room) v

  -- the state's numbers are in range
  pub fine : WithinLimits s
  fine = within_limits s passed.good

  -- the line is short
  pub short : length line ≤ 825000
  short = omega (arith, passed.sum)

  -- how many blocks are tested
  pub few_tested : 66 * length (run_from s line).tested ≤ s.carried.count + 8 * length line
  unfolding run_from feed_meant
  few_tested =
      let n = bits_count s.carried in
      omega (arith, tested_bits (feed_meant s) (line_bits line) (omega (arith, n, fine.carried)), n, length_line_bits line)

  -- how many of them are settled
  pub few_settled : length (settled_from s line).judged ≤ length (run_from s line).tested + 1
  unfolding settled_from
  few_settled =
      omega
      (arith, settle_count (diagram_meant s) (held_meant s ++ (run_from s line).tested), length-append (held_meant s) (run_from s line).tested, few_in (edition_of s.edition) s.have s.held)

  -- ten bytes each
  pub bytes_tens : length (burst_bytes s line) ≡ 10 * length (settled_from s line).judged
  unfolding burst_bytes settled_from run_from
  bytes_tens = settle_tens (diagram_meant s) (each_append (held_tens (edition_of s.edition) s.have s.held) (tens_run (feed_meant s) (line_bits line)))

  -- few blocks, few vectors
  pub tested_few : length (run_from s line).tested ≤ 100001
  tested_few = omega (arith, few_tested, fine.carried, short)

  module _ (r : Receiver) (m : Means s r) where
    -- the receiver's run is that of the state
    run_is : run (Loop.feed_in r) (line_bits line) ≡ run_from s line
    unfolding run_from
    run_is = ap (λ (f : Feed). run f (line_bits line)) m.feed

    -- and so is what it settles
    settle_is : settle r.state (Loop.held_in r ++ (run (Loop.feed_in r) (line_bits line)).tested) ≡ settled_from s line
    unfolding settled_from
    settle_is =
        ap₂ (λ (d : Diagram.State) (h : List Tested). settle d (h ++ (run (Loop.feed_in r) (line_bits line)).tested)) m.state m.held
        ∙ ap (λ (z : Run). settle (diagram_meant s) (held_meant s ++ z.tested)) run_is

    -- what it writes
    written_is : written_by r line ≡ burst_bytes s line
    unfolding burst_bytes
    written_is = ap (λ (z : Settled). bytes_of z.judged) settle_is

    -- fits the room
    pub written_fits : length (written_by r line) ≤ length room
    written_fits = omega (arith, ap length written_is, bytes_tens, few_settled, few_tested, passed.fits)

    module _ (room₁ : List ℕ) (p : Progress) (e : Ends line room room₁ r p) where
      -- the bytes in the room
      front : take p.at room₁ ≡ burst_bytes s line
      front = e.bytes ∙ written_is

      -- their number
      at_is : p.at ≡ length (burst_bytes s line)
      at_is = sym (length-take-le p.at room₁ (omega (arith, e.at, e.len))) ∙ ap length front

      -- the vectors' number
      vectors_is : p.at / 10 ≡ length (settled_from s line).judged
      vectors_is = omega (arith, at_is, bytes_tens)

      -- what was added
      counts_are : p.counts ≡ counts_of (run_from s line).tested
      counts_are = e.counts ∙ ap (λ (z : Run). counts_of z.tested) run_is

      handed_are : p.handed ≡ handed_of (settled_from s line).judged
      handed_are = e.handed ∙ ap (λ (z : Settled). handed_of z.judged) settle_is

      pub added_is : record { counts = p.counts; handed = p.handed } ≡ burst_added s line
      unfolding burst_added
      added_is = λ i. record { counts = counts_are i; handed = handed_are i }

      -- no sum overflows
      pub next_fits : SumsFit s (length line) p
      next_fits =
          let f = fine in
          record {
            bytes = passed.sum;
            counts = within_wide s.counts 100000 1000000 f.counts (omega arith);
            added = subst (Within 1000000) (sym counts_are) (counts_few (run_from s line).tested 1000000 (omega (arith, tested_few)));
            vectors = omega (arith, f.vectors);
            room = omega (arith, at_is, bytes_tens, few_settled, tested_few);
            handed = handed_wide s.handed 100000 1000000 f.handed (omega arith);
            out = subst (HandedWithin 1000000) (sym handed_are) (handed_few (settled_from s line).judged 1000000 (omega (arith, few_settled, tested_few)));
          }

      -- the state after
      next_is : progressed s (length line) p ≡ burst_state s line
      unfolding burst_state burst_added Loop.feed_in
      next_is =
          let f : Loop.feed_in p.receiver ≡ (run_from s line).end = e.feed ∙ ap (λ (z : Run). z.end) run_is in
          let l : p.receiver.link ≡ (run_from s line).end.link = ap (λ (z : Feed). z.link) f in
          let k : p.receiver.skip ≡ (run_from s line).end.skip = ap (λ (z : Feed). z.skip) f in
          let c : p.receiver.carried ≡ carried_for (run_from s line).end.bits = carried_is p.receiver.carried e.sound (run_from s line).end.bits (ap (λ (z : Feed). z.bits) f) in
          let d : state_number p.receiver.state ≡ state_number (settled_from s line).state = ap state_number (e.state ∙ ap (λ (z : Settled). z.state) settle_is) in
          let h : Loop.held_in p.receiver ≡ (settled_from s line).held = e.held ∙ ap (λ (z : Settled). z.held) settle_is in
          let b : p.receiver.have ≡ have_for (settled_from s line).held = held_have p.receiver ∙ ap have_for h in
          λ i.
          record {
            closed = false;
            bytes = s.bytes + length line;
            edition = s.edition;
            lock = (l i).lock;
            rate = (l i).rate;
            history = (l i).history;
            carried = c i;
            skip = k i;
            diagram = d i;
            have = b i;
            held = kept_for (h i);
            counts = plus s.counts (counts_are i);
            vectors = s.vectors + vectors_is i;
            handed = plus_handed s.handed (handed_are i);
          }

      -- the room
      room_is : room₁ ≡ at_start (burst_bytes s line) room
      room_is =
          sym (take-append-drop p.at room₁)
          ∙ ap₂ (λ (a b : List ℕ). a ++ b) front (e.rest ∙ ap (λ (n : ℕ). drop n room) at_is)

      -- so the promise is kept
      pub burst_is : (next : State) (z : Reply) → next ≡ progressed s (length line) p → z.state ≡ next → answer_of z.answer ≡ received (summary_in next false)
          → z.added ≡ record { counts = p.counts; handed = p.handed } → Replies (burst_call s line room) z room₁
      unfolding burst_call
      burst_is next z en es ea ed =
          let n : next ≡ burst_state s line = en ∙ next_is in
          (rw v (es ∙ n), rw v (ea ∙ ap (λ (x : State). received (summary_in x false)) n), rw v (ed ∙ added_is), rw v room_is)

-- ---- the closing call

-- a room with bytes at its start is as long as it was
start_length : (bytes room : List ℕ) → length bytes ≤ length room → length (at_start bytes room) ≡ length room
start_length bytes room l = length-append bytes (drop (length bytes) room) ∙ omega (arith, length-drop (length bytes) room)

-- how many vectors the closing call gives
close_count : (s : State) → length (close_judged s) ≡ cond s.have 1 0
unfolding close_judged held_by judge
close_count s = go s.have
  where
    go : (b : Bool) → length (judge (diagram_meant s) (held_by (edition_of s.edition) b s.held)) ≡ cond b 1 0
    go true = refl
    go false = refl

-- the state after it
closed_is : (s : State) (last : Handed) → last ≡ handed_of (close_judged s) → closed_with s last ≡ close_state s
unfolding close_state close_added
closed_is s last e =
    let v : cond s.have 1 0 ≡ length (close_judged s) = sym (close_count s) in
    λ i.
    record {
      closed = true;
      bytes = s.bytes;
      edition = s.edition;
      lock = s.lock;
      rate = s.rate;
      history = s.history;
      carried = s.carried;
      skip = s.skip;
      diagram = s.diagram;
      have = false;
      held = kept_for [];
      counts = s.counts;
      vectors = s.vectors + v i;
      handed = plus_handed s.handed (e i);
    }

module _ (s : State) (room : List ℕ) (v : burst_verdict s 0 (length room) ≡ accepted) where
  -- what the checks say
  pub close_passed : Passed s 0 (length room)
  close_passed = passed_all s 0 (length room) v

  close_fine : WithinLimits s
  close_fine = within_limits s close_passed.good

  -- at most one vector
  pub close_few : length (close_judged s) ≤ 1
  unfolding close_judged
  close_few = omega (arith, judge_length (diagram_meant s) (held_meant s), few_in (edition_of s.edition) s.have s.held)

  -- of ten bytes
  pub close_tens : length (bytes_of (close_judged s)) ≡ 10 * length (close_judged s)
  unfolding close_judged
  close_tens = judge_tens (diagram_meant s) (held_tens (edition_of s.edition) s.have s.held)

  module _ (r : Receiver) (m : Means s r) where
    -- the bytes of the block held
    abbrev last : List ℕ
    last = held_bytes r.have r.state r.held true

    -- the block held, judged
    judged_is : judge r.state (Loop.held_in r) ≡ close_judged s
    unfolding close_judged
    judged_is = ap₂ judge m.state m.held

    last_is_lem : last ≡ bytes_of (close_judged s)
    unfolding Loop.held_in
    last_is_lem = sym (last_bytes r.have r.state r.held) ∙ ap bytes_of judged_is

    -- fit the room
    pub last_fits : 0 + length last ≤ length room
    last_fits = omega (arith, ap length last_is_lem, close_tens, close_few, close_passed.fits)

    -- what they are counted for
    handed_last : held_handed r.have none_handed r.state r.held true ≡ handed_of (close_judged s)
    unfolding Loop.held_in
    handed_last = handed_held r.have none_handed r.state r.held ∙ hand_first _ ∙ ap handed_of judged_is

    alone_last : held_alone r.have r.state r.held ≡ judged_alone (close_judged s)
    unfolding Loop.held_in
    alone_last = alone_held r.have r.state r.held ∙ ap judged_alone judged_is

    module _ (handed : Handed) (eh : handed ≡ held_handed r.have none_handed r.state r.held true) where
      -- no sum overflows
      pub close_fits : (s.vectors ≤ 1000000) × HandedWithin 1000000 s.handed × HandedWithin 1000000 handed
      close_fits = (
        omega (arith, close_fine.vectors),
        handed_wide s.handed 100000 1000000 close_fine.handed (omega arith),
        subst (HandedWithin 1000000) (sym (eh ∙ handed_last)) (handed_few (close_judged s) 1000000 (omega (arith, close_few))),
      )

      added_last : record { counts = no_counts; handed = handed } ≡ close_added s
      unfolding close_added
      added_last = λ i. record { counts = no_counts; handed = (eh ∙ handed_last) i }

      -- so the promise is kept
      module _ (room₁ : List ℕ) (er : room₁ ≡ take 0 room ++ (last ++ drop (0 + length last) room)) where
        room_last : room₁ ≡ at_start (bytes_of (close_judged s)) room
        room_last = er ∙ ap (λ (n : ℕ). last ++ drop n room) (zero-add (length last)) ∙ ap (λ (x : List ℕ). at_start x room) last_is_lem

        pub close_length : length room₁ ≡ length room
        close_length = ap length room_last ∙ start_length (bytes_of (close_judged s)) room (omega (arith, last_fits, ap length last_is_lem))

        pub close_is : (next : State) (alone : Bool) (counts : Counts) (z : Reply) → next ≡ closed_with s handed → alone ≡ held_alone r.have r.state r.held → counts ≡ no_counts
            → z.state ≡ next → answer_of z.answer ≡ received (summary_in next alone) → z.added ≡ record { counts = counts; handed = handed } → Replies (close_call s room) z room₁
        unfolding close_call
        close_is next alone counts z en el ec es ea ed =
            let n : next ≡ close_state s = en ∙ closed_is s handed (eh ∙ handed_last) in
            let a = ea ∙ ap₂ (λ (x : State) (b : Bool). received (summary_in x b)) n (el ∙ alone_last) in
            let d = ed ∙ ap (λ (x : Counts). record { counts = x; handed = handed }) ec ∙ added_last in
            (rw v (es ∙ n), rw v a, rw v d, rw v room_last)

-- ---- a refused call

pub burst_refused : (s : State) (line room : List ℕ) (n : ℕ) (z : Reply) → z.state ≡ s → answer_of z.answer ≡ Answer.refused n 0
    → z.added ≡ record { counts = no_counts; handed = none_handed } → refused n 0 ≡ burst_verdict s (length line) (length room) → Replies (burst_call s line room) z room
unfolding burst_call refuses
burst_refused s line room n z es ea ed e = (rw (← e) es, rw (← e) ea, rw (← e) ed, rw (← e))

pub close_refused : (s : State) (room : List ℕ) (n : ℕ) (z : Reply) → z.state ≡ s → answer_of z.answer ≡ Answer.refused n 0
    → z.added ≡ record { counts = no_counts; handed = none_handed } → refused n 0 ≡ burst_verdict s 0 (length room) → Replies (close_call s room) z room
unfolding close_call refuses
close_refused s room n z es ea ed e = (rw (← e) es, rw (← e) ea, rw (← e) ed, rw (← e))
