-- Through C too the old edition is what it was. Assumes nothing.
use Prim.Native.Nat.{ℕ}
use mathlib.Core.Path.{◌≡◌, refl, ap, ap₂, ◌∙◌}
use mathlib.Core.List.{List}
use lib.ListN.{length}
use Rattle.refusals.specs.First.{Verdict, first, by_verdict}
use Rattle.block.specs.Block.{edition_of}
use Rattle.sending.specs.Answer as Sending
use Rattle.sending.specs.Answer.{SendAnswer, send_checks}
use Rattle.receiving.specs.Answer as Receiving
use Rattle.receiving.specs.Answer.{receive_checks}
use Rattle.receiving.specs.declared.Summary.{Summary}
use Rattle.counters.specs.Counters.{updated}
use Rattle.lent_words.specs.Words.{result_of, summary_with}
use Rattle.slices.specs.Slices.{counters_in, counters_with, receive_length, receive_words}
use Rattle.holzmotte.specs.Boundary.{send_verdict, send_words, send_result, send_line, send_summary, receive_verdict, receive_result, receive_vectors, receive_summary, receive_counters}
use Rattle.editions.specs.ThroughC.{send_verdict_before, SendingUnchangedThroughC, receive_verdict_before, ReceivingUnchangedThroughC}
use Rattle.editions.proofs.Sending.{sent_same}
use Rattle.editions.proofs.Sending as Sending'
use Rattle.editions.proofs.Receiving.{summary_same}
use Rattle.editions.proofs.Receiving as Receiving'

-- an edition that is known is no refusal
send_verdict_lem : (bytes : List ℕ) (start room summary : ℕ) → send_verdict 0 bytes start room summary ≡ send_verdict_before bytes start room summary
unfolding send_verdict send_checks first
send_verdict_lem bytes start room summary = refl

receive_verdict_lem : (line room summary counters : ℕ) → receive_verdict 0 line room summary counters ≡ receive_verdict_before line room summary counters
unfolding receive_verdict receive_checks first
receive_verdict_lem line room summary counters = refl

pub sending_unchanged_through_c : SendingUnchangedThroughC
unfolding send_result send_line send_summary edition_of
sending_unchanged_through_c bytes start room summary r room' summary' p =
    let v = send_verdict_lem bytes start (length room) (length summary) in (
      p.0 ∙ ap result_of v,
      p.1 ∙ ap₂ (λ (u : Verdict) (left : List ℕ). by_verdict u left (λ number place. room)) v (Sending'.room_same bytes start room),
      p.2 ∙ ap₂ (λ (u : Verdict) (a : SendAnswer). summary_with 3 (send_words (by_verdict u a Sending.refused)) summary) v (sent_same bytes start),
    )

pub receiving_unchanged_through_c : ReceivingUnchangedThroughC
unfolding receive_result receive_vectors receive_summary receive_counters edition_of
receiving_unchanged_through_c line room summary counters r room' summary' counters' p =
    let v = receive_verdict_lem (length line) (length room) (length summary) (length counters) in (
      p.0 ∙ ap result_of v,
      p.1 ∙ ap₂ (λ (u : Verdict) (left : List ℕ). by_verdict u left (λ number place. room)) v (Receiving'.room_same line room),
      p.2 ∙ ap₂ (λ (u : Verdict) (s : Summary). summary_with receive_length (receive_words (by_verdict u (Receiving.received s) Receiving.refused)) summary) v (summary_same line),
      p.3
          ∙ ap₂ (λ (u : Verdict) (s : Summary). by_verdict u (counters_with (updated (counters_in counters) s.counts s.handed) counters) (λ number place. counters)) v (summary_same line),
    )
