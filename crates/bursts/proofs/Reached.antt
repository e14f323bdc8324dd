-- A state after some bursts means the receiver after the joined line. Assumes nothing.
use Prim.Native.Nat.{ℕ, ◌+◌, ◌<◌}
use mathlib.Core.Path.{◌≡◌, refl, sym, ap, ap₂, ◌∙◌, subst}
use mathlib.Core.List.{List, [], ◌++◌, flatten}
use native.Mathlib.Omega.{arith}
use lib.Dec.{lit<}
use lib.ListN.{length, length-append, length-map}
use Rattle.bits.specs.Bits.{number, listed, line_bits}
use Rattle.bits.proofs.Laws.{none}
use Rattle.bits.proofs.Lists.{line_bits_append}
use Rattle.block.specs.Block.{edition_of}
use Rattle.block.specs.declared.Edition.{Edition}
use Rattle.block.specs.declared.Edition.TheVariants.{Old, New}
use Rattle.diagrams.specs.Diagram.{state_number}
use Rattle.diagrams.specs.declared.State as Diagram
use Rattle.diagrams.specs.declared.State.TheVariants.{Init}
use Rattle.bits.specs.Lists.{how_many}
use Rattle.receiving.specs.Machine.{Tested, Feed, Run, run, at, link_fresh, link_of}
use Rattle.receiving.specs.Receive.{Judged, judge, answer, judged_alone, answers, counts_of, handed_of, run_of, judged_of, vectors_of, received_vectors}
use Rattle.receiving.specs.Parts.{Settled, settle, bytes_of, no_counts, plus, none_handed, plus_handed}
use Rattle.receiving.specs.Answer.{summary_of}
use Rattle.receiving.specs.declared.Link.{Link}
use Rattle.receiving.specs.declared.Counts.{Counts}
use Rattle.receiving.specs.declared.Handed.{Handed}
use Rattle.receiving.proofs.Each.{EachTested, each_append, each_held, run_keeps}
use Rattle.receiving.proofs.Runs.{run_behind, run_append}
use Rattle.receiving.proofs.Counted.{count_first, count_append, hand_first, hand_append}
use Rattle.receiving.proofs.Settle.{settled, settle_append, settle_few, bytes_append, alone_settled}
use Rattle.kept_state.specs.declared.State.{State}
use Rattle.kept_state.specs.Meaning.{bits_in, states, diagram_by, held_by, kept_for, link_meant, feed_meant, diagram_meant, held_meant}
use Rattle.bursts.specs.Burst.{state_fresh, run_from, settled_from, burst_bytes, burst_added, burst_state, close_judged, close_added, close_state, summary_in}
use Rattle.kept_state.proofs.Stripped.{stripped_all, stripped_all_bytes, stripped_all_handed, stripped_all_length, stripped_all_state, stripped_all_held, judged_bytes, judged_handed, judged_length, judged_alone_lem}
use Rattle.kept_state.proofs.Storing.{bits_back, bits_words, bits_count, line_words_lem, diagram_back, Storable, stored_in_lem, run_stored, held_back, settle_in, Stands, stands_run}

-- ---- what the state after a burst means

-- a run keeps the edition
edition_kept : (f : Feed) (bits : List ℕ) → (run f bits).end.link.edition ≡ f.link.edition
unfolding link_of
edition_kept f bits = run_keeps (λ (l : Link). l.edition ≡ f.link.edition) (λ t. Unit) (λ l h p q. q) (λ l h p q. tt) f bits refl

module _ (s : State) (line : List ℕ) (few : s.carried.count < 66) where
  -- the receiver that the state means
  stands : Stands (feed_meant s)
  unfolding feed_meant
  stands = record { bits = bits_words s.carried; few = rw bits_count few }

  -- .. and the one after the line
  pub end_stands : Stands (run_from s line).end
  unfolding run_from
  end_stands = stands_run (feed_meant s) (line_words_lem line) stands

  -- its edition
  end_edition : (run_from s line).end.link.edition ≡ edition_of s.edition
  unfolding run_from feed_meant
  end_edition = edition_kept (feed_meant s) (line_bits line)

  -- its bits, skip and link
  pub feed_next : feed_meant (burst_state s line) ≡ (run_from s line).end
  unfolding feed_meant burst_state
  feed_next =
      let b = bits_back (run_from s line).end.bits end_stands.bits end_stands.few in
      let l = (run_from s line).end.link in
      λ i. record { bits = b i; skip = (run_from s line).end.skip; link = record { edition = sym end_edition i; lock = l.lock; rate = l.rate; history = l.history } }

  -- its diagram
  pub diagram_next : diagram_meant (burst_state s line) ≡ (settled_from s line).state
  unfolding burst_state
  diagram_next = diagram_back (settled_from s line).state

  -- its blocks are storable
  pub blocks_stored : EachTested (Storable (edition_of s.edition)) (held_meant s ++ (run_from s line).tested)
  unfolding run_from feed_meant
  blocks_stored = each_append (stored_in_lem (edition_of s.edition) s.have s.held) (run_stored (edition_of s.edition) (feed_meant s) (line_bits line) refl)

  -- its held block
  pub held_next : held_meant (burst_state s line) ≡ stripped_all (settled_from s line).held
  unfolding burst_state settled_from
  held_next = held_back (edition_of s.edition) (each_held (diagram_meant s) blocks_stored) (settle_few (diagram_meant s) (held_meant s ++ (run_from s line).tested))

  -- its diagram's number is known
  pub known_next : state_number (diagram_meant s) < length (states (edition_of s.edition)) → (burst_state s line).diagram < length (states (edition_of s.edition))
  unfolding burst_state settled_from
  known_next w = settle_in (edition_of s.edition) (diagram_meant s) w blocks_stored

-- ---- a state that is reached

module _ (edition : ℕ) where
  abbrev ed : Edition
  ed = edition_of edition

  -- the blocks of a line, settled
  abbrev pub σ : List ℕ → Settled
  σ line = settle Init (run_of ed line).tested

  -- after this line, with these bytes handed out
  pub record At (line bytes : List ℕ) (s : State) : Type 0 where
    pub chosen : s.edition ≡ edition
    pub feed : feed_meant s ≡ (run_of ed line).end
    pub diagram : diagram_meant s ≡ (σ line).state
    pub known : s.diagram ≡ state_number (diagram_meant s)
    pub states : state_number (diagram_meant s) < length (states ed)
    pub held : held_meant s ≡ stripped_all (σ line).held
    pub size : s.bytes ≡ length line
    pub counts : s.counts ≡ counts_of (run_of ed line).tested
    pub vectors : s.vectors ≡ length (σ line).judged
    pub handed : s.handed ≡ handed_of (σ line).judged
    pub given : bytes ≡ bytes_of (σ line).judged

  -- before the first bit
  first_known : (e : Edition) → state_number Init < length (states e)
  first_known Old = lit< tt
  first_known New = lit< tt

  pub at_first : At [] [] (state_fresh edition)
  unfolding feed_meant bits_in listed line_bits number kept_for diagram_by held_by run_of run settle counts_of how_many handed_of flatten
  at_first =
      record {
        chosen = refl;
        feed = refl;
        diagram = refl;
        known = refl;
        states = first_known ed;
        held = refl;
        size = refl;
        counts = refl;
        vectors = refl;
        handed = refl;
        given = refl;
      }

  module _ (line bytes : List ℕ) (s : State) (a : At line bytes s) where
    -- fewer than 66 bits are carried
    pub at_few : s.carried.count < 66
    unfolding feed_meant run_of
    at_few =
        subst (λ (n : ℕ). n < 66) (sym (ap (λ (f : Feed). length f.bits) a.feed) ∙ bits_count s.carried)
        (stands_run (at (link_fresh ed)) (line_words_lem line) (record { bits = none; few = omega arith })).few

    module _ (more : List ℕ) where
      abbrev rest : List Tested
      rest = (run_from s more).tested

      -- the run over the joined line
      run_next : run_of ed (line ++ more) ≡ run_behind (run_of ed line).tested (run_from s more)
      unfolding run_of run_from
      run_next =
          ap (run (at (link_fresh ed))) (line_bits_append line more)
          ∙ run_append (at (link_fresh ed)) (line_bits line) (line_bits more)
          ∙ ap (λ (f : Feed). run_behind (run_of ed line).tested (run f (line_bits more))) (sym a.feed)

      -- its blocks, settled: those of the line, and then the block held and those of the rest
      abbrev on : Settled
      on = settle (σ line).state ((σ line).held ++ rest)

      settle_next : σ (line ++ more) ≡ record { judged = (σ line).judged ++ on.judged; state = on.state; held = on.held }
      settle_next = ap (λ (r : Run). settle Init r.tested) run_next ∙ settle_append Init (run_of ed line).tested rest

      -- which the state gives, but for what was counted
      from_state : settled_from s more ≡ settle (σ line).state (stripped_all (σ line).held ++ rest)
      unfolding settled_from
      from_state = ap₂ (λ (d : Diagram.State) (h : List Tested). settle d (h ++ rest)) a.diagram a.held

      judged_next : (σ (line ++ more)).judged ≡ (σ line).judged ++ on.judged
      judged_next = ap (λ (z : Settled). z.judged) settle_next

      more_bytes : bytes_of (settled_from s more).judged ≡ bytes_of on.judged
      more_bytes = ap (λ (z : Settled). bytes_of z.judged) from_state ∙ stripped_all_bytes (σ line).state (σ line).held rest

      more_handed : handed_of (settled_from s more).judged ≡ handed_of on.judged
      more_handed = ap (λ (z : Settled). handed_of z.judged) from_state ∙ stripped_all_handed (σ line).state (σ line).held rest

      more_length : length (settled_from s more).judged ≡ length on.judged
      more_length = ap (λ (z : Settled). length z.judged) from_state ∙ stripped_all_length (σ line).state (σ line).held rest

      more_counts : plus s.counts (counts_of rest) ≡ counts_of (run_of ed (line ++ more)).tested
      more_counts =
          ap (λ (c : Counts). plus c (counts_of rest)) (a.counts ∙ sym (count_first (counts_of (run_of ed line).tested)))
          ∙ sym (count_append no_counts (run_of ed line).tested rest) ∙ count_first (counts_of ((run_of ed line).tested ++ rest))
          ∙ ap (λ (r : Run). counts_of r.tested) (sym run_next)

      all_handed : plus_handed s.handed (handed_of on.judged) ≡ handed_of (σ (line ++ more)).judged
      all_handed =
          ap (λ (h : Handed). plus_handed h (handed_of on.judged)) (a.handed ∙ sym (hand_first (handed_of (σ line).judged)))
          ∙ sym (hand_append none_handed (σ line).judged on.judged) ∙ hand_first (handed_of ((σ line).judged ++ on.judged))
          ∙ ap handed_of (sym judged_next)

      -- one more burst
      pub at_next : At (line ++ more) (bytes ++ burst_bytes s more) (burst_state s more)
      unfolding burst_bytes burst_state burst_added
      at_next =
          record {
            chosen = a.chosen;
            feed = feed_next s more at_few ∙ ap (λ (r : Run). r.end) (sym run_next);
            diagram =
                diagram_next s more at_few ∙ ap (λ (z : Settled). z.state) from_state
                ∙ stripped_all_state (σ line).state (σ line).held rest ∙ ap (λ (z : Settled). z.state) (sym settle_next);
            known = ap state_number (sym (diagram_next s more at_few));
            states = next_known;
            held =
                held_next s more at_few ∙ ap (λ (z : Settled). stripped_all z.held) from_state
                ∙ stripped_all_held (σ line).state (σ line).held rest ∙ ap (λ (z : Settled). stripped_all z.held) (sym settle_next);
            size = ap (λ (n : ℕ). n + length more) a.size ∙ sym (length-append line more);
            counts = more_counts;
            vectors =
                ap₂ (λ (n m : ℕ). n + m) a.vectors more_length
                ∙ sym (length-append (σ line).judged on.judged) ∙ ap length (sym judged_next);
            handed = ap (plus_handed s.handed) more_handed ∙ all_handed;
            given =
                ap₂ (λ (b c : List ℕ). b ++ c) a.given more_bytes
                ∙ sym (bytes_append (σ line).judged on.judged) ∙ ap bytes_of (sym judged_next);
          }
        where
          next_known : state_number (diagram_meant (burst_state s more)) < length (states ed)
          next_known =
              subst (λ (n : ℕ). n < length (states ed)) (ap state_number (sym (diagram_next s more at_few)))
              (subst (λ (n : ℕ). (burst_state s more).diagram < length (states (edition_of n))) a.chosen
              (known_next s more at_few (subst (λ (n : ℕ). state_number (diagram_meant s) < length (states (edition_of n))) (sym a.chosen) a.states)))

    -- ---- the closing call

    -- the block held, in its state
    abbrev last : List Judged
    last = judge (σ line).state (σ line).held

    from_held : close_judged s ≡ judge (σ line).state (stripped_all (σ line).held)
    unfolding close_judged
    from_held = ap₂ judge a.diagram a.held

    -- all blocks of the line: those settled, and the last
    all_judged : judged_of ed line ≡ (σ line).judged ++ last
    all_judged = settled Init (run_of ed line).tested

    last_bytes : bytes_of (close_judged s) ≡ bytes_of last
    last_bytes = ap bytes_of from_held ∙ judged_bytes (σ line).state (σ line).held

    -- their bytes
    pub at_bytes : bytes ++ bytes_of (close_judged s) ≡ received_vectors ed line
    unfolding received_vectors vectors_of answers
    at_bytes =
        ap₂ (λ (b c : List ℕ). b ++ c) a.given last_bytes
        ∙ sym (bytes_append (σ line).judged last) ∙ ap bytes_of (sym all_judged)

    -- their number
    pub at_count : s.vectors + length (close_judged s) ≡ length (judged_of ed line)
    at_count =
        ap₂ (λ (n m : ℕ). n + m) a.vectors (ap length from_held ∙ judged_length (σ line).state (σ line).held)
        ∙ sym (length-append (σ line).judged last) ∙ ap length (sym all_judged)

    -- what they are counted for
    pub at_handed : plus_handed s.handed (handed_of (close_judged s)) ≡ handed_of (judged_of ed line)
    at_handed =
        ap₂ plus_handed (a.handed ∙ sym (hand_first (handed_of (σ line).judged))) (ap handed_of from_held ∙ judged_handed (σ line).state (σ line).held)
        ∙ sym (hand_append none_handed (σ line).judged last) ∙ hand_first (handed_of ((σ line).judged ++ last))
        ∙ ap handed_of (sym all_judged)

    at_alone : judged_alone (close_judged s) ≡ judged_alone (judged_of ed line)
    at_alone = ap judged_alone from_held ∙ judged_alone_lem (σ line).state (σ line).held ∙ sym (alone_settled Init (run_of ed line).tested)

    vectors_count : length (judged_of ed line) ≡ length (vectors_of ed line)
    unfolding vectors_of answers
    vectors_count = sym (length-map (judged_of ed line) answer)

    -- the last summary
    pub at_summary : summary_in (close_state s) (judged_alone (close_judged s)) ≡ summary_of ed line
    unfolding summary_of close_state close_added feed_meant
    at_summary =
        let l : link_meant s ≡ (run_of ed line).end.link = ap (λ (f : Feed). f.link) a.feed in
        let n = at_count ∙ vectors_count in
        λ i.
        record {
          counts = a.counts i;
          locked = (l i).lock.locked;
          high = (l i).rate.high;
          vectors = n i;
          alone = at_alone i;
          handed = at_handed i;
        }
