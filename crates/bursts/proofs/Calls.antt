-- The theorem of bursts, over calls of which any may be refused. Assumes nothing.
use Prim.Native.Nat.{ℕ, ◌+◌, ◌-◌, ◌*◌, ◌≤◌, ◌<◌}
use mathlib.Core.Path.{◌≡◌, refl, sym, ap, ap₂, ◌∙◌, subst}
use mathlib.Core.Bool.{true, false, true≢false}
use mathlib.Core.List.{List, [], ◌∷◌, ◌++◌, append_assoc, append-nil}
use native.Mathlib.Omega.{arith}
use lib.ListN.{length, take, drop, length-append}
use lib.Seq.{take_at}
use borrow.Author.Tests.{ltb-false}
use Rattle.refusals.specs.First.{Verdict, accepted, refused, by_verdict}
use Rattle.refusals.proofs.Laws.{passed}
use Rattle.block.specs.Block.{edition_of, edition_check}
use Rattle.bits.specs.Bits.{line_bits}
use Rattle.diagrams.specs.declared.State.TheVariants.{Init}
use Rattle.receiving.specs.Machine.{Feed}
use Rattle.receiving.specs.Receive.{judged_alone, run_of, judged_of, received_vectors}
use Rattle.receiving.specs.Parts.{bytes_of}
use Rattle.receiving.specs.Counted.{Within, HandedWithin}
use Rattle.receiving.specs.Answer.{ReceiveAnswer, received, summary_of, answer_of}
use Rattle.receiving.specs.Answer as Answer
use Rattle.receiving.specs.declared.Summary.{Summary}
use Rattle.receiving.proofs.Count.{tested_few}
use Rattle.receiving.proofs.Counted.{counts_few, handed_few}
use Rattle.receiving.proofs.Settle.{judge_length, settle_count}
use Rattle.receiving.proofs.Verdict.{passes}
use Rattle.kept_state.specs.declared.State.{State}
use Rattle.bursts.specs.declared.Added.{Added}
use Rattle.kept_state.specs.Meaning.{states, link_meant, feed_meant}
use Rattle.kept_state.specs.Coded.{WithinLimits}
use Rattle.bad_states.specs.BadStates.{bad_state}
use Rattle.judging.specs.Judging.{burst_verdict}
use Rattle.bursts.specs.Burst.{state_fresh, begun, begin_answer, settled_from, burst_bytes, burst_state, close_judged, close_added, close_state, summary_in, Called, refuses, at_start, burst_call, close_call, Replies}
use Rattle.bursts.specs.Burst as Burst
use Rattle.bursts.specs.Joined.{plus_added, added_in, Call, burst, close, call_of, Made, Follow, taken_by, given_by, state_after_calls, line_after_calls, bytes_after_calls, added_after_calls, Whole, InBursts, AsOne, NeverBad, Accepts}
use Rattle.bad_states.proofs.Orderly.{Orderly, orderly}
use Rattle.bad_states.proofs.Limits.{passes_ten}
use Rattle.judging.proofs.Checks.{passed_all, all_passed}
use Rattle.bursts.proofs.Going.{bytes_tens, close_tens}
use Rattle.bursts.proofs.Sums.{sums, added_assoc, added_none, added_first, burst_sums, close_sums}
use Rattle.bursts.proofs.Reached.{At, σ, at_first, at_few, at_next, at_count, at_handed, at_bytes, at_summary}

-- ---- what a call comes to

-- what stands at the start of a room
front : (bytes room : List ℕ) (k : ℕ) → length bytes ≡ k → take k (at_start bytes room) ≡ bytes
front bytes room k e = take_at bytes (drop (length bytes) room) k e

-- the bytes that a caller takes
abbrev takes : State → Called → List ℕ
takes s c = take (10 * (c.state.vectors - s.vectors)) c.room

module _ (s : State) (line room : List ℕ) (v : burst_verdict s (length line) (length room) ≡ accepted) where
  burst_takes : takes s (burst_call s line room) ≡ burst_bytes s line
  unfolding burst_call burst_state
  burst_takes =
      let n = length (settled_from s line).judged in
      let k : length (burst_bytes s line) ≡ 10 * (s.vectors + n - s.vectors) = bytes_tens s line room v ∙ omega arith in
      rw v (front (burst_bytes s line) room (10 * (s.vectors + n - s.vectors)) k)

module _ (s : State) (room : List ℕ) (v : burst_verdict s 0 (length room) ≡ accepted) where
  close_takes : takes s (close_call s room) ≡ bytes_of (close_judged s)
  unfolding close_call close_state
  close_takes =
      let n = length (close_judged s) in
      let k : length (bytes_of (close_judged s)) ≡ 10 * (s.vectors + n - s.vectors) = close_tens s room v ∙ omega arith in
      rw v (front (bytes_of (close_judged s)) room (10 * (s.vectors + n - s.vectors)) k)

-- a refused call gives nothing
none_taken : (s : State) (room : List ℕ) (n p : ℕ) → takes s (refuses s room n p) ≡ []
unfolding refuses
none_taken s room n p =
    let z : 10 * (s.vectors - s.vectors) ≡ 0 = omega arith in
    ap (λ (k : ℕ). take k room) z

module _ (edition : ℕ) where
  -- ---- what calls lead to: before the closing call, and after it
  data Reach (line bytes : List ℕ) (s : State) : Type 0 where
    opened : At edition line bytes s → s.closed ≡ false → length line ≤ 825000 → Reach line bytes s
    ended : (given : List ℕ) (t : State) → At edition line given t → length line ≤ 825000 → bytes ≡ given ++ bytes_of (close_judged t) → s ≡ close_state t → Reach line bytes s

  -- what a call comes to, and where it leads
  abbrev Leads : (line bytes : List ℕ) (s : State) (c : Call) (d : Called) → Type 0
  Leads line bytes s c d = Reach (line ++ taken_by c d.answer) (bytes ++ takes s d) d.state × (sums d.state ≡ plus_added (sums s) d.added)

  -- a refused call leads nowhere
  taken_none : (c : Call) (n p : ℕ) → taken_by c (Answer.refused n p) ≡ []
  taken_none (burst line room) n p = refl
  taken_none (close room) n p = refl

  stays : (line bytes : List ℕ) (s : State) (c : Call) (room : List ℕ) (n p : ℕ) → Reach line bytes s → Leads line bytes s c (refuses s room n p)
  unfolding refuses
  stays line bytes s c room n p r =
      (rw (none_taken s room n p, taken_none c n p, append-nil line, append-nil bytes) r, sym (added_none (sums s)))

  closed_now : (t : State) → (close_state t).closed ≡ true
  unfolding close_state
  closed_now t = refl

  -- after the closing call no call is accepted
  never : (s : State) (line room : ℕ) → s.closed ≡ true → burst_verdict s line room ≡ accepted → ⊥
  never s line room c v = true≢false (sym c ∙ (passed_all s line room v).unclosed)

  shut : (s t : State) → s ≡ close_state t → s.closed ≡ true
  shut s t e = ap (λ (z : State). z.closed) e ∙ closed_now t

  still_open : (s : State) (more : List ℕ) → (burst_state s more).closed ≡ false
  unfolding burst_state
  still_open s more = refl

  -- any call
  leads_burst : (line bytes : List ℕ) (s : State) → Reach line bytes s → (more room : List ℕ) (v : Verdict) → burst_verdict s (length more) (length room) ≡ v
      → Leads line bytes s (burst more room) (burst_call s more room)
  unfolding burst_call
  leads_burst line bytes s r more room (refused n p) e = rw e (stays line bytes s (burst more room) room n p r)
  leads_burst line bytes s (ended given t a few b q) more room accepted e = absurd (never s (length more) (length room) (shut s t q) e)
  leads_burst line bytes s (opened a o few) more room accepted e =
      let p = passed_all s (length more) (length room) e in
      let n : length (line ++ more) ≤ 825000 = omega (arith, length-append line more, p.sum, a.size) in (
        rw (burst_takes s more room e, e) (opened (at_next edition line bytes s a more) (still_open s more) n),
        rw e (burst_sums s more),
      )

  leads_close : (line bytes : List ℕ) (s : State) → Reach line bytes s → (room : List ℕ) (v : Verdict) → burst_verdict s 0 (length room) ≡ v
      → Leads line bytes s (close room) (close_call s room)
  unfolding close_call
  leads_close line bytes s r room (refused n p) e = rw e (stays line bytes s (close room) room n p r)
  leads_close line bytes s (ended given t a few b q) room accepted e = absurd (never s 0 (length room) (shut s t q) e)
  leads_close line bytes s (opened a o few) room accepted e =
      (rw (close_takes s room e, e, append-nil line) (ended bytes s a few refl refl), rw e (close_sums s))

  leads : (line bytes : List ℕ) (s : State) → Reach line bytes s → (c : Call) → Leads line bytes s c (call_of s c)
  leads line bytes s r (burst more room) = leads_burst line bytes s r more room (burst_verdict s (length more) (length room)) refl
  leads line bytes s r (close room) = leads_close line bytes s r room (burst_verdict s 0 (length room)) refl

  -- a call that was made, by its promise
  made : (line bytes : List ℕ) (s : State) → Reach line bytes s → (m : Made) → Replies (call_of s m.call) m.reply m.room
      → Reach (line ++ taken_by m.call (answer_of m.reply.answer)) (bytes ++ given_by s m.reply m.room) m.reply.state
      × (sums m.reply.state ≡ plus_added (sums s) m.reply.added)
  made line bytes s r m p =
      let l = leads line bytes s r m.call in
      let d = call_of s m.call in (
        subst (λ (z : State). Reach (line ++ taken_by m.call (answer_of m.reply.answer)) (bytes ++ take (10 * (z.vectors - s.vectors)) m.room) z) (sym p.0)
            (subst (λ (w : List ℕ). Reach (line ++ taken_by m.call (answer_of m.reply.answer)) (bytes ++ take (10 * (d.state.vectors - s.vectors)) w) d.state) (sym p.3)
            (subst (λ (a : ReceiveAnswer). Reach (line ++ taken_by m.call a) (bytes ++ takes s d) d.state) (sym p.1) l.0)),
        ap sums p.0 ∙ l.1 ∙ ap (plus_added (sums s)) (sym p.2),
      )

  -- all calls
  all_made : (line bytes : List ℕ) (s : State) → Reach line bytes s → (ms : List Made) → Follow s ms
      → Reach (line ++ line_after_calls ms) (bytes ++ bytes_after_calls s ms) (state_after_calls s ms) × (plus_added (sums s) (added_after_calls ms) ≡ sums (state_after_calls s ms))
  unfolding state_after_calls line_after_calls bytes_after_calls added_after_calls
  all_made line bytes s r [] f = (rw (append-nil line, append-nil bytes) r, added_none (sums s))
  all_made line bytes s r (m ∷ ms) f =
      let n = made line bytes s r m f.0 in
      let taken = taken_by m.call (answer_of m.reply.answer) in
      let given = given_by s m.reply m.room in
      let h = all_made (line ++ taken) (bytes ++ given) m.reply.state n.0 ms f.1 in (
        rw (← append_assoc line taken (line_after_calls ms), ← append_assoc bytes given (bytes_after_calls m.reply.state ms)) h.0,
        sym (added_assoc (sums s) m.reply.added (added_after_calls ms)) ∙ ap (λ (a : Added). plus_added a (added_after_calls ms)) (sym n.1) ∙ h.1,
      )

  -- ---- from a fresh state

  begun_known : (v : Verdict) (s : State) → by_verdict v (begun (state_fresh edition)) Burst.refused ≡ begun s → (v ≡ accepted) × (s ≡ state_fresh edition)
  begun_known accepted s e = (refl, sym (begun_state (state_fresh edition) s e))
    where
      begun_state : (a b : State) → begun a ≡ begun b → a ≡ b
      begun_state a b e = cc
  begun_known (refused n p) s e = absurd (let z : ◌≡◌ {A = ℕ} 0 1 = cc in omega arith)

  pub known : (s : State) → begin_answer edition ≡ begun s → (edition ≤ 1) × (s ≡ state_fresh edition)
  unfolding begin_answer
  known s e =
      let k = begun_known _ s e in
      (ltb-false 1 edition (passed (edition_check edition) [] k.0).0, k.1)

  reach : (s : State) → begin_answer edition ≡ begun s → (ms : List Made) → Follow s ms
      → Reach (line_after_calls ms) (bytes_after_calls s ms) (state_after_calls s ms) × (added_after_calls ms ≡ sums (state_after_calls s ms))
  reach s e ms f =
      let k = known s e in
      let a : Reach [] [] s = subst (Reach [] []) (sym k.1) (opened (at_first edition) refl (omega arith)) in
      let h = all_made [] [] s a ms f in
      (h.0, sym (added_first (added_after_calls ms)) ∙ ap (λ (z : State). plus_added (sums z) (added_after_calls ms)) (sym k.1) ∙ h.1)

-- ---- the theorem

-- what an accepted closing call answers
closing : (s : State) (room : List ℕ) (last : Summary) (v : Verdict) → burst_verdict s 0 (length room) ≡ v → (close_call s room).answer ≡ received last
    → (burst_verdict s 0 (length room) ≡ accepted) × (last ≡ summary_in (close_state s) (judged_alone (close_judged s)))
unfolding close_call refuses
closing s room last accepted e q = (e, told last _ (sym q ∙ rw e refl))
  where
    told : (a b : Summary) → received a ≡ received b → a ≡ b
    told a b r = cc
closing s room last (refused n p) e q = absurd (unlike n p last (sym said ∙ q))
  where
    said : (close_call s room).answer ≡ Answer.refused n p
    said = rw e refl

    unlike : (n p : ℕ) (z : Summary) → Answer.refused n p ≡ received z → ⊥
    unlike n p z r = let y : ◌≡◌ {A = ℕ} 0 1 = cc in omega arith

-- and what it adds
added_by : (s : State) (room : List ℕ) → burst_verdict s 0 (length room) ≡ accepted → (close_call s room).added ≡ close_added s
unfolding close_call
added_by s room v = rw v refl

-- from where the calls before it led
whole_of : (edition : ℕ) → edition ≤ 1 → (line bytes : List ℕ) (s : State) → Reach edition line bytes s
    → (room : List ℕ) (last : Summary) → (close_call s room).answer ≡ received last
    → (last ≡ summary_of (edition_of edition) line) × (bytes ++ takes s (close_call s room) ≡ received_vectors (edition_of edition) line) × (length line ≤ 825000)
whole_of edition k line bytes s (ended given t a few b q) room last e =
    absurd (never edition s 0 (length room) (shut edition s t q) (closing s room last (burst_verdict s 0 (length room)) refl e).0)
whole_of edition k line bytes s (opened a o few) room last e =
    let c = closing s room last (burst_verdict s 0 (length room)) refl e in (
      c.1 ∙ at_summary edition line bytes s a,
      ap (λ (l : List ℕ). bytes ++ l) (close_takes s room c.0) ∙ at_bytes edition line bytes s a,
      few,
    )

-- what the calls of a line in bursts give
module _ (edition : ℕ) (line bytes : List ℕ) (last : Summary) (b : InBursts edition line bytes last) where
  -- the state that the closing call finds
  abbrev found : State
  found = state_after_calls b.fresh b.calls

  reached : Reach edition (line_after_calls b.calls) (bytes_after_calls b.fresh b.calls) found × (added_after_calls b.calls ≡ sums found)
  reached = reach edition b.fresh b.begins b.calls b.follow

  says : (close_call found b.room).answer ≡ received last
  says = sym b.closes.1 ∙ b.ends

  of_calls : (last ≡ summary_of (edition_of edition) (line_after_calls b.calls))
      × (bytes_after_calls b.fresh b.calls ++ takes found (close_call found b.room) ≡ received_vectors (edition_of edition) (line_after_calls b.calls))
      × (length (line_after_calls b.calls) ≤ 825000)
  of_calls =
      whole_of edition (known edition b.fresh b.begins).0 (line_after_calls b.calls) (bytes_after_calls b.fresh b.calls) found reached.0 b.room last says

  given : given_by found b.reply b.left ≡ takes found (close_call found b.room)
  given = ap₂ (λ (z : State) (x : List ℕ). take (10 * (z.vectors - found.vectors)) x) b.closes.0 b.closes.3

  bytes_one : bytes ≡ received_vectors (edition_of edition) line
  bytes_one =
      sym b.joined ∙ ap (λ (x : List ℕ). bytes_after_calls b.fresh b.calls ++ x) given ∙ of_calls.1 ∙ ap (received_vectors (edition_of edition)) b.whole

  summary_one : last ≡ summary_of (edition_of edition) line
  summary_one = of_calls.0 ∙ ap (summary_of (edition_of edition)) b.whole

  added_one : plus_added (added_after_calls b.calls) b.reply.added ≡ added_in last
  added_one =
      let c = closing found b.room last (burst_verdict found 0 (length b.room)) refl says in
      ap₂ plus_added reached.1 (b.closes.2 ∙ added_by found b.room c.0) ∙ sym (close_sums found) ∙ ap added_in (sym c.1)

pub as_one : AsOne
as_one edition line bytes last b = (bytes_one edition line bytes last b, summary_one edition line bytes last b)

pub whole : Whole
whole edition line bytes last b room room' one q enough =
    let few : length line ≤ 825000 = subst (λ (l : List ℕ). length l ≤ 825000) b.whole (of_calls edition line bytes last b).2 in
    let y = passes edition line room (known edition b.fresh b.begins).0 few enough in (
      q.0 ∙ sym y.0 ∙ ap received (sym (summary_one edition line bytes last b)),
      q.1 ∙ sym y.1 ∙ ap (λ (x : List ℕ). at_start x room) (sym (bytes_one edition line bytes last b)),
      added_one edition line bytes last b,
    )

-- ---- what a line leads to is never refused with 10

module _ (edition : ℕ) (line bytes : List ℕ) (s : State) (a : At edition line bytes s) (few : length line ≤ 825000) where
  -- the link
  at_orderly : Orderly (link_meant s)
  unfolding feed_meant run_of
  at_orderly = subst Orderly (sym (ap (λ (f : Feed). f.link) a.feed)) (orderly (edition_of edition) (line_bits line))

  -- the blocks
  at_blocks : length (run_of (edition_of edition) line).tested ≤ 100000
  at_blocks = omega (arith, tested_few (edition_of edition) line)

  at_counts : Within 100000 s.counts
  at_counts = subst (Within 100000) (sym a.counts) (counts_few (run_of (edition_of edition) line).tested 100000 at_blocks)

  at_known : s.diagram < length (states (edition_of s.edition))
  at_known = subst (λ (n : ℕ). s.diagram < length (states (edition_of n))) (sym a.chosen) (subst (λ (n : ℕ). n < length (states (edition_of edition))) (sym a.known) a.states)

  -- the vectors, with the last one
  at_all : length (judged_of (edition_of edition) line) ≤ 100000
  at_all = omega (arith, judge_length Init (run_of (edition_of edition) line).tested, at_blocks)

  at_fair : WithinLimits s
  at_fair =
      record {
        range = at_orderly.range;
        bytes = omega (arith, a.size);
        counts = at_counts;
        vectors = omega (arith, at_count edition line bytes s a, at_all);
        handed = subst (HandedWithin 100000) (sym a.handed) (handed_few (σ edition line).judged 100000 (omega (arith, settle_count Init (run_of (edition_of edition) line).tested, at_blocks)));
        carried = at_few edition line bytes s a;
        diagram = at_known;
      }

  at_closed : WithinLimits (close_state s)
  unfolding close_state close_added
  at_closed =
      record {
        range = at_orderly.range;
        bytes = omega (arith, a.size);
        counts = at_counts;
        vectors = omega (arith, at_count edition line bytes s a, at_all);
        handed = subst (HandedWithin 100000) (sym (at_handed edition line bytes s a)) (handed_few (judged_of (edition_of edition) line) 100000 at_all);
        carried = at_few edition line bytes s a;
        diagram = at_known;
      }

-- before the closing call and after it
reach_good : (edition : ℕ) (line bytes : List ℕ) (s : State) → Reach edition line bytes s → bad_state s ≡ false
unfolding close_state
reach_good edition line bytes s (opened a o few) = passes_ten s (at_orderly edition line bytes s a few) (at_fair edition line bytes s a few)
reach_good edition line bytes s (ended given t a few b e) =
    subst (λ (z : State). bad_state z ≡ false) (sym e) (passes_ten (close_state t) (at_orderly edition line given t a few) (at_closed edition line given t a few))

reach_edition : (edition : ℕ) (line bytes : List ℕ) (s : State) → Reach edition line bytes s → s.edition ≡ edition
unfolding close_state
reach_edition edition line bytes s (opened a o few) = a.chosen
reach_edition edition line bytes s (ended given t a few b e) = ap (λ (z : State). z.edition) e ∙ a.chosen

pub never_bad : NeverBad
never_bad edition s b ms f =
    let r = (reach edition s b ms f).0 in
    (reach_good edition (line_after_calls ms) (bytes_after_calls s ms) (state_after_calls s ms) r, reach_edition edition (line_after_calls ms) (bytes_after_calls s ms) (state_after_calls s ms) r)

-- and accepted before the closing call
reach_size : (edition : ℕ) (line bytes : List ℕ) (s : State) → Reach edition line bytes s → s.closed ≡ false → s.bytes ≡ length line
reach_size edition line bytes s (opened a o few) u = a.size
reach_size edition line bytes s (ended given t a few b e) u = absurd (true≢false (sym (shut edition s t e) ∙ u))

pub accepts : Accepts
accepts edition s b ms f u line room sum fits =
    let t = state_after_calls s ms in
    let n = reach_size edition (line_after_calls ms) (bytes_after_calls s ms) t (reach edition s b ms f).0 u in
    let k = (known edition s b).0 in
    let good = never_bad edition s b ms f in
    all_passed t line room (record { known = omega (arith, good.1, k); unclosed = u; good = good.0; sum = omega (arith, n); fits = fits })
