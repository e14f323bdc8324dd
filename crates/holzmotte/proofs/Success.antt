-- What a call of `holzmotte_receive` whose result is 0 was lent and left. Assumes nothing.
use Prim.Native.Nat.{ℕ, ◌*◌, ◌/◌, ◌≤◌}
use mathlib.Core.Path.{◌≡◌, ap, sym, ◌∙◌}
use mathlib.Core.Bool.{false}
use mathlib.Core.List.{List, ◌++◌}
use lib.Dec.{lit<}
use lib.ListN.{length, drop}
use borrow.Author.Tests.{ltb-false}
use Rattle.refusals.specs.First.{Verdict, accepted, by_verdict}
use Rattle.refusals.proofs.Laws.{passed}
use Rattle.block.specs.Block.{edition_of}
use Rattle.receiving.specs.Answer.{received, receive_checks, summary_of, receive_answer, receive_room}
use Rattle.receiving.specs.Answer as Answer
use Rattle.receiving.specs.declared.Summary.{Summary}
use Rattle.counters.specs.Counters.{updated}
use Rattle.lent_words.specs.Words.{word_bytes, summary_with}
use Rattle.slices.specs.Slices.{counters_in, counters_with, receive_length, short_slice, receive_words}
use Rattle.lent_words.proofs.Laws.{result_zero, summary_long}
use Rattle.holzmotte.specs.Boundary.{receive_verdict, receive_result, receive_vectors, receive_summary, receive_counters, ReceivesThroughC}
use Rattle.holzmotte.proofs.Receives.{verdict_is, long_summary}

module _ (edition : ℕ) (line room summary counters room' summary' counters' : List ℕ) (p : ReceivesThroughC edition line room summary counters 0 room' summary' counters') where
  -- the verdict
  went : receive_verdict edition (length line) (length room) (length summary) (length counters) ≡ accepted
  unfolding receive_result receive_verdict receive_checks
  went = result_zero _ (lit< tt, (lit< tt, (lit< tt, (lit< tt, tt)))) p.0

  -- no slice was too short
  lent : (short_slice (length summary) (length counters) ≡ false) × (10 * (8 * length line / 66) ≤ length room)
  unfolding receive_verdict receive_checks
  lent =
      let a = passed _ _ went in
      let b = passed _ _ a.1 in
      let c = passed _ _ b.1 in
      let d = passed _ _ c.1 in
      (c.0, ltb-false (length room) (10 * (8 * length line / 66)) d.0)

  pub room_lent : 10 * (8 * length line / 66) ≤ length room
  room_lent = lent.1

  -- the summary of the line
  abbrev one : Summary
  one = summary_of (edition_of edition) line

  pub answer_is : received one ≡ receive_answer edition line (length room)
  unfolding receive_answer
  answer_is = ap (λ (v : Verdict). by_verdict v (received one) Answer.refused) (sym went ∙ verdict_is edition line room summary counters lent.0)

  pub room_is : room' ≡ receive_room edition line room
  unfolding receive_vectors
  room_is = p.1 ∙ ap (λ (v : Verdict). by_verdict v (receive_room edition line room) (λ number place. room)) went

  pub summary_is : summary' ≡ word_bytes 8 (receive_words (received one)) ++ drop (8 * receive_length) summary
  unfolding receive_summary
  summary_is =
      p.2
      ∙ ap (λ (v : Verdict). summary_with receive_length (receive_words (by_verdict v (received one) Answer.refused)) summary) went
      ∙ summary_long receive_length (receive_words (received one)) summary (long_summary edition line room summary counters lent.0)

  pub counters_are : counters' ≡ counters_with (updated (counters_in counters) one.counts one.handed) counters
  unfolding receive_counters
  counters_are = p.3 ∙ ap (λ (v : Verdict). by_verdict v (counters_with (updated (counters_in counters) one.counts one.handed) counters) (λ number place. counters)) went
