-- The theorem of bursts through C: a call through C is a call of `bursts` with the state that the slice holds. Assumes nothing.
use Prim.Native.Nat.{ℕ, ◌+◌, ◌-◌, ◌*◌, ◌≤◌}
use mathlib.Core.Path.{◌≡◌, refl, sym, ap, ap₂, ◌∙◌, subst}
use mathlib.Core.Bool.{Bool, false, cond}
use mathlib.Core.List.{List, [], ◌∷◌, ◌++◌}
use native.Mathlib.Omega.{arith}
use lib.Dec.{eqb}
use lib.ListN.{length, take, drop}
use lib.Seq.{take_at}
use borrow.Author.Tests.{ne_eqb, le-ltb}
use Rattle.refusals.specs.First.{Verdict, accepted, refused, first}
use Rattle.block.specs.Block.{edition_of}
use Rattle.receiving.specs.Receive.{judged_alone}
use Rattle.receiving.specs.Parts.{bytes_of}
use Rattle.receiving.specs.Answer.{ReceiveAnswer, received, summary_of, answer_of}
use Rattle.receiving.specs.declared.Summary.{Summary}
use Rattle.std.specs.Prelude.{Ok}
use Rattle.counters.specs.Counters.{updated}
use Rattle.lent_words.specs.Words.{result_of, word_bytes, summary_with}
use Rattle.slices.specs.Slices.{counters_in, counters_with, receive_length, receive_words}
use Rattle.lent_words.proofs.Laws.{summary_long, length_words}
use Rattle.slices.proofs.Totals.{twice_in_bytes}
use Rattle.kept_state.specs.declared.State.{State}
use Rattle.bursts.specs.declared.Added.{Added}
use Rattle.bursts.specs.declared.Reply.{Reply}
use Rattle.bad_states.specs.BadStates.{bad_state}
use Rattle.judging.specs.Judging.{burst_verdict}
use Rattle.bursts.specs.Burst.{state_fresh, begun, begin_answer, burst_bytes, burst_added, burst_state, close_judged, close_added, close_state, summary_in, at_start, burst_call, close_call, Replies}
use Rattle.bursts.specs.Joined.{plus_added, none_added, added_in, call_of}
use Rattle.bursts.specs.Joined as ByValue
use Rattle.bursts.proofs.Sums.{added_none, added_first}
use Rattle.bursts.proofs.Calls as Calls
use Rattle.stored.specs.Stored.{state_in, stored_in}
use Rattle.stored.proofs.Again.{fresh_again, burst_again, close_again}
use Rattle.holzmotte.specs.Boundary.{ReceivesThroughC}
use Rattle.holzmotte.proofs.Success as Success
use Rattle.holzmotte_bursts.specs.Boundary.{BeginsThroughC, verdict, Left, leaves, spares, burst_left, close_left, Leaves}
use Rattle.holzmotte_bursts.specs.Joined.{NeverBadThroughC, CallThroughC, burst, close, left_of, MadeThroughC, FollowThroughC, taken_through_c, given_through_c, state_through_c, counters_through_c, line_through_c, bytes_through_c, WholeThroughC}
use Rattle.holzmotte_bursts.proofs.Verdicts.{begin_known, goes_on_lem, refused_above, success}
use Rattle.holzmotte_bursts.proofs.Slices.{both_long}

-- ---- the counters over some calls

-- the counters once a call added this
abbrev with : List ℕ → Added → List ℕ
with counters a = counters_with (updated (counters_in counters) a.counts a.handed) counters

-- one call after another
in_turn : (counters : List ℕ) (a b : Added) → with (with counters a) b ≡ with counters (plus_added a b)
in_turn counters a b = twice_in_bytes (counters_in counters) a.counts a.handed counters b.counts b.handed

-- what accepted calls added; where there was none, the slice stands as it was, however short it is
data Adds (before after : List ℕ) (a : Added) : Type 0 where
  untouched : after ≡ before → a ≡ none_added → Adds before after a
  counted : after ≡ with before a → Adds before after a

-- a call before the others
adds_first : (before now after : List ℕ) (a b : Added) → now ≡ with before a → Adds now after b → Adds before after (plus_added a b)
adds_first before now after a b e (untouched h n) = counted (h ∙ e ∙ ap (with before) (sym (ap (plus_added a) n ∙ added_none a)))
adds_first before now after a b e (counted h) = counted (h ∙ ap (λ (z : List ℕ). with z b) e ∙ in_turn before a b)

-- and one after them
adds_last : (before now after : List ℕ) (a b : Added) → Adds before now a → after ≡ with now b → after ≡ with before (plus_added a b)
adds_last before now after a b (untouched h n) e =
    e ∙ ap (λ (z : List ℕ). with z b) h ∙ ap (with before) (sym (ap (λ (z : Added). plus_added z b) n ∙ added_first b))
adds_last before now after a b (counted h) e = e ∙ ap (λ (z : List ℕ). with z b) h ∙ in_turn before a b

-- ---- one call

-- a refused call took nothing and left state and counters; an accepted one took, left and added what a call of `bursts` does
data Step (state counters taken state' vectors' counters' : List ℕ) : Type 0 where
  spared : taken ≡ [] → state' ≡ state → counters' ≡ counters → Step state counters taken state' vectors' counters'
  made : (m : ByValue.Made) → Replies (call_of (state_in state) m.call) m.reply m.room
      → taken ≡ ByValue.taken_by m.call (answer_of m.reply.answer) → state_in state' ≡ m.reply.state → vectors' ≡ m.room → counters' ≡ with counters m.reply.added
      → Step state counters taken state' vectors' counters'

-- the reply of a call that comes to this
abbrev replied : State → Summary → Added → Reply
replied s sum a = record { state = s; answer = Ok sum; added = a }

module _ (state line vectors summary counters : List ℕ) where
  abbrev s : State
  s = state_in state

  abbrev burst_reply : Reply
  burst_reply = replied (burst_state s line) (summary_in (burst_state s line) false) (burst_added s line)

  module _ (v : verdict state (length line) (length vectors) (length summary) (length counters) ≡ accepted) where
    burst_own : burst_verdict s (length line) (length vectors) ≡ accepted
    burst_own = (goes_on_lem state (length line) (length vectors) (length summary) (length counters) v).1

    burst_replies : Replies (burst_call s line vectors) burst_reply (at_start (burst_bytes s line) vectors)
    unfolding burst_call
    burst_replies = (rw burst_own refl, rw burst_own refl, rw burst_own refl, rw burst_own refl)

    burst_left_lem : burst_left state line vectors summary counters ≡ leaves state summary counters (burst_call s line vectors)
    unfolding burst_left
    burst_left_lem = rw v refl

  burst_step : (v : Verdict) → verdict state (length line) (length vectors) (length summary) (length counters) ≡ v
      → (r : ℕ) (state' vectors' summary' counters' : List ℕ) → Leaves (burst_left state line vectors summary counters) r state' vectors' summary' counters'
      → Step state counters (taken_through_c (burst line vectors summary) r) state' vectors' counters'
  unfolding burst_left leaves spares
  burst_step accepted v r state' vectors' summary' counters' l =
      let w = burst_replies v in
      let e = burst_left_lem v in
      made (record { call = ByValue.burst line vectors; reply = burst_reply; room = at_start (burst_bytes s line) vectors }) w
      (ap (taken_through_c (burst line vectors summary)) (l.0 ∙ ap (λ (z : Left). z.result) e))
      (ap state_in (l.1 ∙ ap (λ (z : Left). z.state) e ∙ ap (λ (z : State). stored_in z state) (sym w.0)) ∙ burst_again s line vectors state (burst_own v))
      (l.2 ∙ ap (λ (z : Left). z.vectors) e ∙ sym w.3)
      (l.4 ∙ ap (λ (z : Left). z.counters) e ∙ ap (with counters) (sym w.2))
  burst_step (refused n p) v r state' vectors' summary' counters' l =
      let above = refused_above state (length line) (length vectors) (length summary) (length counters) n p v in
      let e : burst_left state line vectors summary counters ≡ spares state vectors summary counters n p = rw v refl in
      spared (ap (λ (z : ℕ). cond (eqb z 0) line []) (l.0 ∙ ap (λ (z : Left). z.result) e) ∙ ap (λ (b : Bool). cond b line []) (ne_eqb (n + 256 * p) 0 (λ q. omega arith)))
      (l.1 ∙ ap (λ (z : Left). z.state) e) (l.4 ∙ ap (λ (z : Left). z.counters) e)

module _ (state vectors summary counters : List ℕ) where
  abbrev t : State
  t = state_in state

  abbrev last : Summary
  last = summary_in (close_state t) (judged_alone (close_judged t))

  abbrev close_reply : Reply
  close_reply = replied (close_state t) last (close_added t)

  module _ (v : verdict state 0 (length vectors) (length summary) (length counters) ≡ accepted) where
    close_own : burst_verdict t 0 (length vectors) ≡ accepted
    close_own = (goes_on_lem state 0 (length vectors) (length summary) (length counters) v).1

    close_replies : Replies (close_call t vectors) close_reply (at_start (bytes_of (close_judged t)) vectors)
    unfolding close_call
    close_replies = (rw close_own refl, rw close_own refl, rw close_own refl, rw close_own refl)

    close_left_lem : close_left state vectors summary counters ≡ leaves state summary counters (close_call t vectors)
    unfolding close_left
    close_left_lem = rw v refl

    module _ (r : ℕ) (state' vectors' summary' counters' : List ℕ) (l : Leaves (close_left state vectors summary counters) r state' vectors' summary' counters') where
      -- what an accepted closing call leaves
      closed_state : state_in state' ≡ close_state t
      unfolding leaves
      closed_state =
          ap state_in (l.1 ∙ ap (λ (z : Left). z.state) close_left_lem ∙ ap (λ (z : State). stored_in z state) (sym close_replies.0))
          ∙ close_again state vectors state close_own

      closed_vectors : vectors' ≡ at_start (bytes_of (close_judged t)) vectors
      unfolding leaves
      closed_vectors = l.2 ∙ ap (λ (z : Left). z.vectors) close_left_lem ∙ sym close_replies.3

      closed_summary : summary' ≡ word_bytes 8 (receive_words (received last)) ++ drop (8 * receive_length) summary
      unfolding leaves
      closed_summary =
          let n = (goes_on_lem state 0 (length vectors) (length summary) (length counters) v).0 in
          l.3 ∙ ap (λ (z : Left). z.summary) close_left_lem
          ∙ ap (λ (a : ReceiveAnswer). summary_with receive_length (receive_words a) summary) (sym close_replies.1)
          ∙ summary_long receive_length (receive_words (received last)) summary (both_long (length summary) (length counters) n).0

      closed_counters : counters' ≡ with counters (close_added t)
      unfolding leaves
      closed_counters = l.4 ∙ ap (λ (z : Left). z.counters) close_left_lem ∙ ap (with counters) (sym close_replies.2)

  close_step : (v : Verdict) → verdict state 0 (length vectors) (length summary) (length counters) ≡ v
      → (r : ℕ) (state' vectors' summary' counters' : List ℕ) → Leaves (close_left state vectors summary counters) r state' vectors' summary' counters'
      → Step state counters [] state' vectors' counters'
  unfolding close_left spares
  close_step accepted v r state' vectors' summary' counters' l =
      made (record { call = ByValue.close vectors; reply = close_reply; room = at_start (bytes_of (close_judged t)) vectors }) (close_replies v) refl
      (closed_state v r state' vectors' summary' counters' l) (closed_vectors v r state' vectors' summary' counters' l) (closed_counters v r state' vectors' summary' counters' l)
  close_step (refused n p) v r state' vectors' summary' counters' l =
      let e : close_left state vectors summary counters ≡ spares state vectors summary counters n p = rw v refl in
      spared refl (l.1 ∙ ap (λ (z : Left). z.state) e) (l.4 ∙ ap (λ (z : Left). z.counters) e)

step : (state counters : List ℕ) (c : CallThroughC) (r : ℕ) (state' vectors' summary' counters' : List ℕ) → Leaves (left_of state counters c) r state' vectors' summary' counters'
    → Step state counters (taken_through_c c r) state' vectors' counters'
step state counters (burst line vectors summary) r state' vectors' summary' counters' l = burst_step state line vectors summary counters _ refl r state' vectors' summary' counters' l
step state counters (close vectors summary) r state' vectors' summary' counters' l = close_step state vectors summary counters _ refl r state' vectors' summary' counters' l

-- ---- all calls

-- those that were not refused, as calls of `bursts`
record Told (state counters : List ℕ) (ms : List MadeThroughC) : Type 0 where
  calls : List ByValue.Made
  follow : ByValue.Follow (state_in state) calls
  line : line_through_c ms ≡ ByValue.line_after_calls calls
  bytes : bytes_through_c state ms ≡ ByValue.bytes_after_calls (state_in state) calls
  end : state_in (state_through_c state ms) ≡ ByValue.state_after_calls (state_in state) calls
  total : Adds counters (counters_through_c counters ms) (ByValue.added_after_calls calls)

-- where a state counts no more vectors, none are given
none_given : (n : ℕ) (vectors : List ℕ) → take (10 * (n - n)) vectors ≡ []
none_given n vectors = let z : 10 * (n - n) ≡ 0 = omega arith in ap (λ (k : ℕ). take k vectors) z

told_first : (state counters : List ℕ) (m : MadeThroughC) (ms : List MadeThroughC) → Step state counters (taken_through_c m.call m.result) m.state m.vectors m.counters
    → Told m.state m.counters ms → Told state counters (m ∷ ms)
unfolding line_through_c bytes_through_c state_through_c counters_through_c ByValue.line_after_calls ByValue.bytes_after_calls ByValue.state_after_calls ByValue.added_after_calls
told_first state counters m ms (spared t es ec) w =
    record {
      calls = w.calls;
      follow = subst (λ (z : List ℕ). ByValue.Follow (state_in z) w.calls) es w.follow;
      line = ap₂ ◌++◌ t w.line;
      bytes =
          ap₂ ◌++◌ (ap (λ (z : List ℕ). given_through_c state z m.vectors) es ∙ none_given (state_in state).vectors m.vectors)
          (w.bytes ∙ ap (λ (z : List ℕ). ByValue.bytes_after_calls (state_in z) w.calls) es);
      end = w.end ∙ ap (λ (z : List ℕ). ByValue.state_after_calls (state_in z) w.calls) es;
      total = subst (λ (z : List ℕ). Adds z (counters_through_c m.counters ms) (ByValue.added_after_calls w.calls)) ec w.total;
    }
told_first state counters m ms (made q p t es ev ec) w =
    record {
      calls = q ∷ w.calls;
      follow = (p, subst (λ (z : State). ByValue.Follow z w.calls) es w.follow);
      line = ap₂ ◌++◌ t w.line;
      bytes =
          ap₂ ◌++◌ (ap₂ (λ (z : State) (x : List ℕ). take (10 * (z.vectors - (state_in state).vectors)) x) es ev)
          (w.bytes ∙ ap (λ (z : State). ByValue.bytes_after_calls z w.calls) es);
      end = w.end ∙ ap (λ (z : State). ByValue.state_after_calls z w.calls) es;
      total = adds_first counters m.counters (counters_through_c m.counters ms) q.reply.added (ByValue.added_after_calls w.calls) ec w.total;
    }

told : (state counters : List ℕ) (ms : List MadeThroughC) → FollowThroughC state counters ms → Told state counters ms
unfolding line_through_c bytes_through_c state_through_c counters_through_c ByValue.line_after_calls ByValue.bytes_after_calls ByValue.state_after_calls ByValue.added_after_calls
told state counters [] f = record { calls = []; follow = tt; line = refl; bytes = refl; end = refl; total = untouched refl refl }
told state counters (m ∷ ms) f =
    told_first state counters m ms (step state counters m.call m.result m.state m.vectors m.summary m.counters f.0) (told m.state m.counters ms f.1)

-- ---- the theorem

-- a fresh state, of a known edition
fresh : (edition : ℕ) → edition ≤ 1 → begin_answer edition ≡ begun (state_fresh edition)
unfolding begin_answer first
fresh edition k = rw (le-ltb 1 edition k)

-- the summary at the start of a slice
at_front : (last : Summary) (rest : List ℕ) → take (8 * receive_length) (word_bytes 8 (receive_words (received last)) ++ rest) ≡ word_bytes 8 (receive_words (received last))
at_front last rest = take_at (word_bytes 8 (receive_words (received last))) rest (8 * receive_length) (length_words 8 (receive_words (received last)))

same_summary : (a b : Summary) → received a ≡ received b → a ≡ b
same_summary a b e = cc

-- a result of 0
close_result : (state vectors summary counters : List ℕ) (v : Verdict) → verdict state 0 (length vectors) (length summary) (length counters) ≡ v
    → (close_left state vectors summary counters).result ≡ result_of (verdict state 0 (length vectors) (length summary) (length counters))
unfolding close_left leaves spares
close_result state vectors summary counters accepted e = rw e refl
close_result state vectors summary counters (refused n p) e = rw e refl

module _ (edition : ℕ) (state counters : List ℕ) (ms : List MadeThroughC) (w : Told state counters ms) (b : begin_answer edition ≡ begun (state_in state))
    (vectors summary state' vectors' summary' counters' : List ℕ)
    (l : Leaves (close_left (state_through_c state ms) vectors summary (counters_through_c counters ms)) 0 state' vectors' summary' counters')
    (v : verdict (state_through_c state ms) 0 (length vectors) (length summary) (length (counters_through_c counters ms)) ≡ accepted)
    (room sum room' sum' counters'' : List ℕ) (q : ReceivesThroughC edition (line_through_c ms) room sum counters 0 room' sum' counters'') where
  -- the state and the counters that the closing call finds
  abbrev S : List ℕ
  S = state_through_c state ms

  abbrev found : List ℕ
  found = counters_through_c counters ms

  -- its reply and its room, its summary, and that of the whole line
  abbrev reply : Reply
  reply = close_reply S vectors summary found

  abbrev left : List ℕ
  left = at_start (bytes_of (close_judged (state_in S))) vectors

  abbrev said : Summary
  said = last S vectors summary found

  abbrev one : Summary
  one = summary_of (edition_of edition) (line_through_c ms)

  -- the theorem of `bursts`
  abbrev Z : State
  Z = ByValue.state_after_calls (state_in state) w.calls

  in_bursts : ByValue.InBursts edition (line_through_c ms) (ByValue.bytes_after_calls (state_in state) w.calls ++ ByValue.given_by Z reply left) said
  in_bursts =
      record {
        fresh = state_in state;
        begins = b;
        calls = w.calls;
        follow = w.follow;
        room = vectors;
        reply = reply;
        left = left;
        closes = subst (λ (x : State). Replies (close_call x vectors) reply left) w.end (close_replies S vectors summary found v);
        ends = refl;
        whole = sym w.line;
        joined = refl;
      }

  joined : (received one ≡ received said)
      × (room' ≡ at_start (ByValue.bytes_after_calls (state_in state) w.calls ++ ByValue.given_by Z reply left) room)
      × (plus_added (ByValue.added_after_calls w.calls) (close_added (state_in S)) ≡ added_in said)
  unfolding in_bursts
  joined =
      Calls.whole edition (line_through_c ms) _ said in_bursts room room' (Ok one)
      (Success.answer_is edition (line_through_c ms) room sum counters room' sum' counters'' q, Success.room_is edition (line_through_c ms) room sum counters room' sum' counters'' q)
      (Success.room_lent edition (line_through_c ms) room sum counters room' sum' counters'' q)

  -- the vectors
  given : ByValue.given_by Z reply left ≡ given_through_c S state' vectors'
  given =
      ap (λ (x : State). ByValue.given_by x reply left) (sym w.end)
      ∙ sym (ap₂ (λ (x : State) (y : List ℕ). take (10 * (x.vectors - (state_in S).vectors)) y)
      (closed_state S vectors summary found v 0 state' vectors' summary' counters' l) (closed_vectors S vectors summary found v 0 state' vectors' summary' counters' l))

  joined_room : room' ≡ at_start (bytes_through_c state ms ++ given_through_c S state' vectors') room
  joined_room = joined.1 ∙ ap (λ (x : List ℕ). at_start x room) (ap₂ ◌++◌ (sym w.bytes) given)

  -- the summary
  joined_summary : take (8 * receive_length) sum' ≡ take (8 * receive_length) summary'
  joined_summary =
      ap (take (8 * receive_length)) (Success.summary_is edition (line_through_c ms) room sum counters room' sum' counters'' q)
      ∙ at_front one (drop (8 * receive_length) sum)
      ∙ ap (λ (a : ReceiveAnswer). word_bytes 8 (receive_words a)) joined.0
      ∙ sym (ap (take (8 * receive_length)) (closed_summary S vectors summary found v 0 state' vectors' summary' counters' l) ∙ at_front said (drop (8 * receive_length) summary))

  -- the counters
  joined_counters : counters'' ≡ counters'
  joined_counters =
      Success.counters_are edition (line_through_c ms) room sum counters room' sum' counters'' q
      ∙ ap (λ (x : Summary). with counters (added_in x)) (same_summary one said joined.0)
      ∙ ap (with counters) (sym joined.2)
      ∙ sym (adds_last counters found counters' (ByValue.added_after_calls w.calls) (close_added (state_in S)) w.total
      (closed_counters S vectors summary found v 0 state' vectors' summary' counters' l))

-- a state that was begun here is the fresh one of a known edition
begun_here : (edition : ℕ) (slice state : List ℕ) → BeginsThroughC edition slice 0 state → (edition ≤ 1) × (begin_answer edition ≡ begun (state_in state))
begun_here edition slice state b =
    let k = begin_known edition slice state b in
    (k.0, fresh edition k.0 ∙ ap begun (sym (ap state_in k.1 ∙ fresh_again edition slice k.0)))

pub whole : WholeThroughC
whole edition slice state b counters ms f vectors summary state' vectors' summary' counters' l room sum room' sum' counters'' q =
    let begins = (begun_here edition slice state b).1 in
    let w = told state counters ms f in
    let v = success (state_through_c state ms) 0 (length vectors) (length summary) (length (counters_through_c counters ms)) (l.0 ∙ close_result (state_through_c state ms) vectors summary (counters_through_c counters ms) _ refl) in (
      joined_room edition state counters ms w begins vectors summary state' vectors' summary' counters' l v room sum room' sum' counters'' q,
      joined_summary edition state counters ms w begins vectors summary state' vectors' summary' counters' l v room sum room' sum' counters'' q,
      joined_counters edition state counters ms w begins vectors summary state' vectors' summary' counters' l v room sum room' sum' counters'' q,
    )

pub never_bad : NeverBadThroughC
never_bad edition slice state b counters ms f =
    let h = begun_here edition slice state b in
    let w = told state counters ms f in
    let n = Calls.never_bad edition (state_in state) h.1 w.calls w.follow in
    (ap bad_state w.end ∙ n.0, omega (arith, ap (λ (s : State). s.edition) w.end, n.1, h.0))
