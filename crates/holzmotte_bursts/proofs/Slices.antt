-- What a call leaves in the slices. Assumes nothing.
use Prim.Native.Nat.{ℕ, ◌-◌, ◌≤◌, ◌<◌}
use mathlib.Core.Path.{◌≡◌, refl, sym, ap, ap₂, ◌∙◌, subst}
use mathlib.Core.Bool.{Bool, true, false, cond, ◌||◌, true≢false}
use mathlib.Core.List.{List, [], ◌++◌, append-nil}
use native.Mathlib.Nat.{sub-zero}
use native.Mathlib.Omega.{arith}
use lib.ListN.{length, drop, replicate}
use lib.Seq.{take-length, drop-length}
use borrow.Rule.Slice.PartMut.{mid_of, put_mid, put_same}
use Rattle.std.specs.Prelude.{Result}
use Rattle.refusals.specs.declared.Refused.{Refused}
use Rattle.refusals.specs.First.{Verdict, accepted, refused, by_verdict}
use Rattle.receiving.specs.Receive.{judged_alone}
use Rattle.receiving.specs.Answer.{ReceiveAnswer, received, answer_of}
use Rattle.receiving.specs.Answer as Answer
use Rattle.receiving.specs.declared.Summary.{Summary}
use Rattle.lent_words.specs.Words.{word_bytes, summary_with, too_short}
use Rattle.slices.specs.Slices.{counters_in, counters_with, receive_length, short_slice, receive_words}
use Rattle.counters.specs.Counters.{updated}
use Rattle.counters.specs.declared.Counters.{Counters}
use Rattle.receiving.specs.declared.Counts.{Counts}
use Rattle.receiving.specs.declared.Handed.{Handed}
use borrow.Author.Tests.{ltb-false}
use Rattle.lent_words.proofs.Laws.{summary_long}
use Rattle.kept_state.specs.declared.State.{State}
use Rattle.bursts.specs.declared.Added.{Added}
use Rattle.bursts.specs.declared.Reply.{Reply}
use Rattle.judging.specs.Judging.{burst_verdict}
use Rattle.bursts.specs.Burst.{Called, refuses, burst_state, close_judged, close_state, summary_in, burst_done, close_done, burst_call, close_call, Replies}
use Rattle.stored.specs.Stored.{state_in, stored_in}
use Rattle.holzmotte_bursts.specs.Boundary.{verdict, Left, leaves, spares, burst_left, close_left, Leaves}
use Rattle.holzmotte_bursts.specs.Coded.{AnswerFits, LeftBy}
use Rattle.holzmotte_bursts.proofs.Verdicts.{place_nought, short_state, short_slices, long_slices, goes_on_lem}

-- slices that are long enough
neither : (a b : Bool) → a || b ≡ false → (a ≡ false) × (b ≡ false)
neither true b e = absurd (true≢false e)
neither false b e = (refl, e)

pub both_long : (summary counters : ℕ) → short_slice summary counters ≡ false → (96 ≤ summary) × (32 ≤ counters)
both_long summary counters e =
    let n = neither (too_short 8 receive_length summary) (too_short 4 8 counters) e in
    (ltb-false summary 96 n.0, ltb-false counters 32 n.1)

-- ---- either call: a burst, or the closing call

-- its line bytes: the closing call has none
abbrev bytes : Bool → (line : List ℕ) → ℕ
bytes closing line = cond closing 0 (length line)

-- what it comes to
abbrev comes : Bool → State → (line room : List ℕ) → Called
comes closing s line room = cond closing (close_call s room) (burst_call s line room)

-- what it comes to where it is accepted
abbrev done : Bool → State → (line room : List ℕ) → Called
done closing s line room = cond closing (close_done s room) (burst_done s line room)

comes_by : (closing : Bool) (s : State) (line room : List ℕ)
    → comes closing s line room ≡ by_verdict (burst_verdict s (bytes closing line) (length room)) (done closing s line room) (refuses s room)
unfolding burst_call close_call
comes_by true s line room = refl
comes_by false s line room = refl

-- the summary of an accepted one
abbrev sum : Bool → State → (line : List ℕ) → Summary
sum closing s line = cond closing (summary_in (close_state s) (judged_alone (close_judged s))) (summary_in (burst_state s line) false)

done_says : (closing : Bool) (s : State) (line room : List ℕ) → (done closing s line room).answer ≡ received (sum closing s line)
done_says true s line room = refl
done_says false s line room = refl

-- what it leaves
abbrev left : Bool → (state line vectors summary counters : List ℕ) → Left
left closing state line vectors summary counters = cond closing (close_left state vectors summary counters) (burst_left state line vectors summary counters)

-- by the verdict
abbrev left_for : Verdict → Bool → (state line vectors summary counters : List ℕ) → Left
left_for v closing state line vectors summary counters =
    by_verdict v (leaves state summary counters (comes closing (state_in state) line vectors)) (spares state vectors summary counters)

left_by : (closing : Bool) (state line vectors summary counters : List ℕ)
    → left closing state line vectors summary counters
    ≡ left_for (verdict state (bytes closing line) (length vectors) (length summary) (length counters)) closing state line vectors summary counters
unfolding burst_left close_left
left_by true state line vectors summary counters = refl
left_by false state line vectors summary counters = refl

module _ (closing : Bool) (state line vectors summary counters : List ℕ) where
  -- the verdict on it through C
  abbrev judged : Verdict
  judged = verdict state (bytes closing line) (length vectors) (length summary) (length counters)

  left_for_lem : (v : Verdict) → judged ≡ v → left closing state line vectors summary counters ≡ left_for v closing state line vectors summary counters
  left_for_lem v e = left_by closing state line vectors summary counters ∙ ap (λ (x : Verdict). left_for x closing state line vectors summary counters) e

  -- a state too short
  pub state_short : length state < 232 → (summary' : List ℕ) → summary' ≡ summary_with receive_length (replicate receive_length 0) summary
      → Leaves (left closing state line vectors summary counters) 4 state vectors summary' counters
  unfolding spares
  state_short l summary' e =
      subst (λ (z : Left). Leaves z 4 state vectors summary' counters)
      (sym (left_for_lem (refused 4 0) (short_state state (bytes closing line) (length vectors) (length summary) (length counters) l)))
      (refl, refl, refl, e, refl)

-- ---- a state long enough: the call is made, with no room where the summary or the counters are too short

-- none of a room or all of it is lent, as a part of it
module _ (vectors : List ℕ) (short : Bool) (n : ℕ) (en : n ≡ cond short 0 (length vectors)) where
  lent_is : (b : Bool) → short ≡ b → n - 0 ≡ cond b 0 (length vectors)
  lent_is b e = sub-zero n ∙ en ∙ ap (λ (x : Bool). cond x 0 (length vectors)) e

  lent_none : short ≡ true → mid_of 0 (n - 0) vectors ≡ []
  lent_none e = ap (λ (k : ℕ). mid_of 0 k vectors) (lent_is true e)

  lent_all : short ≡ false → mid_of 0 (n - 0) vectors ≡ vectors
  lent_all e = ap (λ (k : ℕ). mid_of 0 k vectors) (lent_is false e) ∙ take-length vectors

  -- all of it comes back
  back_all : (room' : List ℕ) → short ≡ false → put_mid 0 (n - 0) vectors room' ≡ room'
  back_all room' e = ap (λ (k : ℕ). put_mid 0 k vectors room') (lent_is false e) ∙ ap (λ (x : List ℕ). room' ++ x) (drop-length vectors) ∙ append-nil room'

module _ (closing : Bool) (state line vectors summary counters : List ℕ) (s : State) (es : s ≡ state_in state) (long : 232 ≤ length state) (short : Bool)
    (eb : short ≡ short_slice (length summary) (length counters)) (n : ℕ) (en : n ≡ cond short 0 (length vectors)) where
  -- the room of the call itself
  abbrev room : List ℕ
  room = mid_of 0 (n - 0) vectors

  -- its own verdict
  abbrev own : Verdict
  own = burst_verdict s (bytes closing line) (length room)

  -- which is that on the call through C
  judged_is : judged closing state line vectors summary counters ≡ own
  judged_is = by short refl
    where
      by : (b : Bool) → short ≡ b → judged closing state line vectors summary counters ≡ own
      by true h =
          short_slices state (bytes closing line) (length vectors) (length summary) (length counters) long (sym eb ∙ h)
          ∙ ap₂ (λ (z : State) (x : List ℕ). burst_verdict z (bytes closing line) (length x)) (sym es) (sym (lent_none vectors short n en h))
      by false h =
          long_slices state (bytes closing line) (length vectors) (length summary) (length counters) long (sym eb ∙ h)
          ∙ ap₂ (λ (z : State) (x : List ℕ). burst_verdict z (bytes closing line) (length x)) (sym es) (sym (lent_all vectors short n en h))

  -- so an accepted call is lent slices that are long enough
  enough : own ≡ accepted → short ≡ false
  enough v = eb ∙ (goes_on_lem state (bytes closing line) (length vectors) (length summary) (length counters) (judged_is ∙ v)).0

  module _ (r : Reply) (room' : List ℕ) (w : Replies (comes closing s line room) r room') where
    -- the call by its verdict
    comes_for : (v : Verdict) → own ≡ v → comes closing s line room ≡ by_verdict v (done closing s line room) (refuses s room)
    comes_for v e = comes_by closing s line room ∙ ap (λ (x : Verdict). by_verdict x (done closing s line room) (refuses s room)) e

    -- its answer
    received_is : own ≡ accepted → answer_of r.answer ≡ received (sum closing s line)
    received_is v = w.1 ∙ ap (λ (x : Called). x.answer) (comes_for accepted v) ∙ done_says closing s line room

    refused_is : (k p : ℕ) → own ≡ refused k p → answer_of r.answer ≡ Answer.refused k p
    unfolding refuses
    refused_is k p v = w.1 ∙ ap (λ (x : Called). x.answer) (comes_for (refused k p) v)

    fits_by : (v : Verdict) → own ≡ v → AnswerFits (answer_of r.answer) (length summary) (length counters)
    fits_by accepted v =
        subst (λ (a : ReceiveAnswer). AnswerFits a (length summary) (length counters)) (sym (received_is v)) (both_long (length summary) (length counters) (sym eb ∙ enough v))
    fits_by (refused k p) v =
        subst (λ (a : ReceiveAnswer). AnswerFits a (length summary) (length counters)) (sym (refused_is k p v)) (omega (arith, place_nought s (bytes closing line) (length room) k p v))

    -- the answer fits
    pub call_fits : AnswerFits (answer_of r.answer) (length summary) (length counters)
    call_fits = fits_by own refl

    module _ (z : ℕ) (state' summary' counters' : List ℕ)
        (l : LeftBy (answer_of r.answer) r.state r.added state summary counters z state' summary' counters') where
      left_of_lem : (a : ReceiveAnswer) → answer_of r.answer ≡ a → LeftBy a r.state r.added state summary counters z state' summary' counters'
      left_of_lem a e = subst (λ (x : ReceiveAnswer). LeftBy x r.state r.added state summary counters z state' summary' counters') e l

      leaves_by : (v : Verdict) → own ≡ v → Leaves (left_for v closing state line vectors summary counters) z state' (put_mid 0 (n - 0) vectors room') summary' counters'
      unfolding refuses leaves spares
      leaves_by accepted v =
          let u : Replies (comes closing (state_in state) line vectors) r room' =
          subst (λ (c : Called). Replies c r room') (ap₂ (λ (x : State) (y : List ℕ). comes closing x line y) es (lent_all vectors short n en (enough v))) w in
          let m = left_of_lem (received (sum closing s line)) (received_is v) in (
            m.0,
            m.1 ∙ ap (λ (x : State). stored_in x state) u.0,
            back_all vectors short n en room' (enough v) ∙ u.3,
            m.2 ∙ ap (λ (x : ReceiveAnswer). summary_with receive_length (receive_words x) summary) (sym (received_is v) ∙ u.1),
            m.3 ∙ ap (λ (x : Added). counters_with (updated (counters_in counters) x.counts x.handed) counters) u.2,
          )
      leaves_by (refused k p) v =
          let m = left_of_lem (Answer.refused k p) (refused_is k p v) in
          let same : room' ≡ room = w.3 ∙ ap (λ (x : Called). x.room) (comes_for (refused k p) v) in
          (m.0, m.1, ap (put_mid 0 (n - 0) vectors) same ∙ put_same 0 (n - 0) vectors, m.2, m.3)

      -- so the promise is kept
      pub call_leaves : Leaves (left closing state line vectors summary counters) z state' (put_mid 0 (n - 0) vectors room') summary' counters'
      call_leaves =
          subst (λ (x : Left). Leaves x z state' (put_mid 0 (n - 0) vectors room') summary' counters') (sym (left_for_lem closing state line vectors summary counters own judged_is)) (leaves_by own refl)

-- ---- a reply, by the answer that a match finds

module _ (next : State) (added : Added) (state summary counters : List ℕ) (z : ℕ) (state' summary' counters' : List ℕ) where
  pub found_left : (a b : Result Summary Refused) → a ≡ b → LeftBy (answer_of b) next added state summary counters z state' summary' counters'
      → LeftBy (answer_of a) next added state summary counters z state' summary' counters'
  found_left a b e l = subst (λ (x : Result Summary Refused). LeftBy (answer_of x) next added state summary counters z state' summary' counters') (sym e) l

pub found_fits : (a b : Result Summary Refused) (summary counters : ℕ) → a ≡ b → AnswerFits (answer_of a) summary counters → AnswerFits (answer_of b) summary counters
found_fits a b summary counters e p = subst (λ (x : Result Summary Refused). AnswerFits (answer_of x) summary counters) e p

-- the words of an answer, as they were put
pub put_is : (s : Summary) (summary summary' : List ℕ) → 96 ≤ length summary → summary' ≡ word_bytes 8 (receive_words (received s)) ++ drop 96 summary
    → summary' ≡ summary_with receive_length (receive_words (received s)) summary
put_is s summary summary' l e = e ∙ sym (summary_long receive_length (receive_words (received s)) summary l)

-- the counters, as they were added
pub added_to : (counters counters' : List ℕ) (before after : Counters) (n : Counts) (h : Handed) → before ≡ counters_in counters → after ≡ updated before n h → counters' ≡ counters_with after counters
    → counters' ≡ counters_with (updated (counters_in counters) n h) counters
added_to counters counters' before after n h e f g = g ∙ ap (λ (c : Counters). counters_with c counters) (f ∙ ap (λ (c : Counters). updated c n h) e)
