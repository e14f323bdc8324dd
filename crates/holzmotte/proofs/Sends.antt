-- Sending through C, case by case. Assumes nothing.
use Prim.Native.Nat.{ℕ, ◌+◌, ◌*◌, ◌/◌, ◌%◌, ◌^◌, ◌≤◌, ◌<◌}
use mathlib.Core.Path.{◌≡◌, refl, sym, ap, ◌∙◌}
use mathlib.Core.Bool.{Bool, true, false, not}
use mathlib.Core.List.{List, [], ◌∷◌, ◌++◌}
use native.Mathlib.Omega.{arith}
use lib.ListN.{length, take, drop}
use lib.Dec.{ltb, eqb}
use borrow.Author.Tests.{lt-ltb, le-ltb, ltb-false, eqb-true}
use Rattle.std.specs.Prelude.{Result, Ok, Err}
use Rattle.refusals.specs.Refused.{by_result}
use Rattle.refusals.specs.declared.Refused.{Refused}
use Rattle.refusals.specs.First.{Check, check, check_at, Verdict, accepted, refused, first, by_verdict}
use Rattle.refusals.proofs.Laws.{passed}
use Rattle.control_bytes.specs.Control.{high_control}
use Rattle.sending.specs.Answer.{SendAnswer, send_checks, send_answer, send_room}
use Rattle.sending.specs.Answer as Answer
use Rattle.sending.specs.declared.Sending.{Sending}
use Rattle.sending.proofs.Verdicts.{verdict_of_send, verdict_told, place_small}
use Rattle.lent_words.specs.Words.{result_of, one_more_after, word_bytes, too_short}
use Rattle.holzmotte.specs.Boundary.{send_verdict, send_words, send_result, send_line, send_summary, SendsThroughC}
use Rattle.lent_words.proofs.Laws.{long_first, kept, summary_short, summary_long}
use Rattle.lent_words.proofs.Applied.{short_of, never, short_result}

-- what a call into no room is refused for, or else 4
pub or_four_is : (r : Result Sending Refused) → by_result (λ s. 4) (λ number place. number + 256 * place) r ≡ short_of (verdict_of_send (Answer.answer_of r))
or_four_is (Ok s) = refl
or_four_is (Err w) = refl

-- no room, where none is needed or where some is: a control byte is looked at where some is
no_room : (b e : Bool) (h : ℕ) → (b ≡ false → e ≡ false) → short_of (first (check 4 b ∷ check_at 5 h e ∷ [])) ≡ 4
unfolding first
no_room true e h k = refl
no_room false e h k = rw (k refl)

not-false : (b : Bool) → not b ≡ false → b ≡ true
not-false true e = refl
not-false false e = absurd (let z : ◌≡◌ {A = ℕ} 0 1 = cc in omega arith)

module _ (edition : ℕ) where
  module _ (vectors : List ℕ) (start room summary : ℕ) (short : summary < 8 * 3) where
    abbrev checks : ℕ → List Check
    checks = send_checks edition vectors start

    short_refuses : send_verdict edition vectors start room summary ≡ accepted → ⊥
    unfolding send_verdict
    short_refuses = never (take 4 (checks room)) (check 4 (too_short 8 3 summary)) (drop 4 (checks room)) (lt-ltb summary (8 * 3) short)

    -- a control byte is none where there is no vector
    none_high : ltb 0 (33 * (length vectors / 40)) ≡ false → not (eqb (length vectors % 40) 0) ≡ false → ltb (high_control vectors) (length vectors) ≡ false
    none_high z g =
        le-ltb (high_control vectors) (length vectors)
        (omega (arith, eqb-true (length vectors % 40) 0 (not-false (eqb (length vectors % 40) 0) g), ltb-false 0 (33 * (length vectors / 40)) z))

    short_is : send_result edition vectors start room summary ≡ short_of (first (checks 0))
    unfolding send_result send_verdict send_checks
    short_is =
        short_result (take 4 (checks room)) (too_short 8 3 summary) (drop 4 (checks room)) (drop 4 (checks 0)) (lt-ltb summary (8 * 3) short)
        (λ q. no_room (ltb 0 (33 * (length vectors / 40))) (ltb (high_control vectors) (length vectors)) (high_control vectors)
        (λ z. none_high z (passed _ _ (passed _ _ (passed _ _ q).1).1).0))

  pub short_answer : (vectors : List ℕ) (start room summary : ℕ) (answer : SendAnswer) → answer ≡ send_answer edition vectors start 0 → summary < 8 * 3
      → short_of (verdict_of_send answer) ≡ send_result edition vectors start room summary
  short_answer vectors start room summary answer e l =
      ap short_of (ap verdict_of_send e ∙ verdict_told edition vectors start 0) ∙ sym (short_is vectors start room summary l)

  -- a refusal's place fits a result
  pub small : (vectors : List ℕ) (start room number place : ℕ) → Answer.refused number place ≡ send_answer edition vectors start room → place < 2 ^ 56
  small vectors start room number place e =
      omega (arith, place_small edition vectors start room number place (sym (ap verdict_of_send e ∙ verdict_told edition vectors start room)))

  -- with a summary too short
  pub shortly : (vectors room summary : List ℕ) (start result : ℕ) → length summary < 8 * 3
      → result ≡ send_result edition vectors start (length room) (length summary)
      → SendsThroughC edition vectors start room summary result room summary
  unfolding send_line send_summary
  shortly vectors room summary start result l e = (e, by (send_verdict edition vectors start (length room) (length summary)) refl, sym (summary_short 3 _ summary l))
    where
      by : (v : Verdict) → send_verdict edition vectors start (length room) (length summary) ≡ v → room ≡ by_verdict v (send_room edition vectors start room) (λ number place. room)
      by accepted h = absurd (short_refuses vectors start (length room) (length summary) l h)
      by (refused number place) h = refl

  -- with a summary that is long enough
  pub answered : (vectors room summary room' summary' : List ℕ) (start : ℕ) (answer : SendAnswer) → 8 * 3 ≤ length summary
      → answer ≡ send_answer edition vectors start (length room) → room' ≡ send_room edition vectors start room
      → summary' ≡ word_bytes 8 (send_words answer) ++ drop 24 summary
      → SendsThroughC edition vectors start room summary (result_of (verdict_of_send answer)) room' summary'
  unfolding send_answer send_result send_verdict send_line send_summary send_room
  answered vectors room summary room' summary' start answer l e r s =
      let v : first (one_more_after 4 (check 4 (too_short 8 3 (length summary))) (send_checks edition vectors start (length room))) ≡ first (send_checks edition vectors start (length room)) =
      long_first 4 3 (length summary) (send_checks edition vectors start (length room)) l in
      let t : verdict_of_send answer ≡ first (send_checks edition vectors start (length room)) = ap verdict_of_send e ∙ verdict_told edition vectors start (length room) in (
        ap result_of (t ∙ sym v),
        r ∙ rw v (sym (kept (first (send_checks edition vectors start (length room))) _ room)),
        s ∙ ap (λ (a : SendAnswer). word_bytes 8 (send_words a) ++ drop 24 summary) e
            ∙ sym (summary_long 3 (send_words (send_answer edition vectors start (length room))) summary l) ∙ rw v refl,
      )
