-- Receiving through C, case by case: a slice too short, an answer, a refusal. Assumes nothing.
use Prim.Native.Nat.{ℕ, ◌+◌, ◌*◌, ◌/◌, ◌^◌, ◌≤◌, ◌<◌}
use mathlib.Core.Path.{◌≡◌, refl, sym, ap, ap₂, ◌∙◌}
use mathlib.Core.Bool.{Bool, true, false, ◌||◌, true≢false}
use mathlib.Core.List.{List, [], ◌∷◌, ◌++◌}
use native.Mathlib.Omega.{arith}
use lib.ListN.{length, take, drop, replicate}
use lib.Dec.{ltb}
use borrow.Author.Tests.{ltb-false}
use Rattle.std.specs.Prelude.{Result, Ok, Err}
use Rattle.refusals.specs.Refused.{by_result}
use Rattle.refusals.specs.declared.Refused.{Refused}
use Rattle.refusals.specs.First.{Check, check, Verdict, accepted, refused, first, by_verdict}
use Rattle.block.specs.declared.Edition.{Edition}
use Rattle.block.specs.Block.{edition_of}
use Rattle.receiving.specs.Answer.{ReceiveAnswer, received, receive_checks, summary_of, receive_answer, receive_room}
use Rattle.receiving.specs.Answer as Answer
use Rattle.receiving.specs.declared.Summary.{Summary}
use Rattle.counters.specs.Counters.{counters_after}
use Rattle.counters.specs.declared.Counters.{Counters}
use Rattle.lent_words.specs.Words.{result_of, word_bytes, too_short, summary_with}
use Rattle.slices.specs.Slices.{counters_in, counters_with, receive_length, short_slice, receive_words}
use Rattle.holzmotte.specs.Boundary.{receive_verdict, receive_result, receive_vectors, receive_summary, receive_counters, ReceivesThroughC}
use Rattle.lent_words.proofs.Laws.{first_after, place_zero, summary_long}
use Rattle.lent_words.proofs.Applied.{short_of, never, short_result}

-- what a match finds of an answer has its values
pub as_found : (w : ReceiveAnswer) {x y : Result Summary Refused} → x ≡ y → Answer.answer_of x ≡ w → Answer.answer_of y ≡ w
as_found w e q = ap Answer.answer_of (sym e) ∙ q

-- an answer tells the verdict
abbrev pub verdict_received : ReceiveAnswer → Verdict
verdict_received (received s) = accepted
verdict_received (Answer.refused number place) = refused number place

-- what a call into no room is refused for, or else 4
pub or_four_is : (r : Result Summary Refused) → by_result (λ s. 4) (λ number place. number + 256 * place) r ≡ short_of (verdict_received (Answer.answer_of r))
or_four_is (Ok s) = refl
or_four_is (Err w) = refl

told : (v : Verdict) (ed : Edition) (line : List ℕ) → verdict_received (by_verdict v (received (summary_of ed line)) Answer.refused) ≡ v
told accepted ed line = refl
told (refused n p) ed line = refl

-- no room, where none is needed or where some is
no_room : (b : Bool) → short_of (first (check 4 b ∷ [])) ≡ 4
unfolding first
no_room true = refl
no_room false = refl

module _ (edition : ℕ) where
  verdict_told : (line : List ℕ) (room : ℕ) → verdict_received (receive_answer edition line room) ≡ first (receive_checks edition (length line) room)
  unfolding receive_answer
  verdict_told line room = told (first (receive_checks edition (length line) room)) (edition_of edition) line

  module _ (line room summary counters : ℕ) (short : short_slice summary counters ≡ true) where
    abbrev checks : ℕ → List Check
    checks = receive_checks edition line

    short_refuses : receive_verdict edition line room summary counters ≡ accepted → ⊥
    unfolding receive_verdict
    short_refuses = never (take 2 (checks room)) (check 4 (short_slice summary counters)) (drop 2 (checks room)) short

    short_is : receive_result edition line room summary counters ≡ short_of (first (checks 0))
    unfolding receive_result receive_verdict receive_checks
    short_is =
        short_result (take 2 (checks room)) (short_slice summary counters) (drop 2 (checks room)) (drop 2 (checks 0)) short (λ q. no_room (ltb 0 (10 * (8 * line / 66))))

  pub short_answer : (line : List ℕ) (room summary counters : ℕ) (answer : ReceiveAnswer) → answer ≡ receive_answer edition line 0 → short_slice summary counters ≡ true
      → short_of (verdict_received answer) ≡ receive_result edition (length line) room summary counters
  short_answer line room summary counters answer e l =
      ap short_of (ap verdict_received e ∙ verdict_told line 0) ∙ sym (short_is (length line) room summary counters l)

  -- a refusal's place fits a result
  pub small : (line : List ℕ) (room number place : ℕ) → Answer.refused number place ≡ receive_answer edition line room → place < 2 ^ 56
  unfolding receive_checks
  small line room number place e =
      let z : place ≡ 0 = place_zero _ (refl, (refl, (refl, tt))) number place (sym (ap verdict_received e ∙ verdict_told line room)) in
      omega arith

  -- ---- what a call comes to

  module _ (line room summary counters : List ℕ) where
    -- by the verdict
    abbrev verdict : Verdict
    verdict = receive_verdict edition (length line) (length room) (length summary) (length counters)

    -- a refusal clears the summary and changes no other slice
    refuses : (number place : ℕ) → verdict ≡ refused number place
        → ReceivesThroughC edition line room summary counters (number + 256 * place) room (summary_with receive_length (replicate receive_length 0) summary) counters
    unfolding receive_result receive_vectors receive_summary receive_counters
    refuses number place v = (rw v, rw v, rw v, rw v)

    -- with a slice too short
    pub shortly : (r : ℕ) → short_slice (length summary) (length counters) ≡ true → r ≡ receive_result edition (length line) (length room) (length summary) (length counters)
        → ReceivesThroughC edition line room summary counters r room (summary_with receive_length (replicate receive_length 0) summary) counters
    shortly r l e = by verdict refl
      where
        by : (v : Verdict) → verdict ≡ v → ReceivesThroughC edition line room summary counters r room (summary_with receive_length (replicate receive_length 0) summary) counters
        by accepted h = absurd (short_refuses (length line) (length room) (length summary) (length counters) l h)
        by (refused number place) h =
            let t = refuses number place h in
            (e, t.1, t.2, t.3)

    module _ (long : short_slice (length summary) (length counters) ≡ false) where
      -- with none too short, all goes by the checks of receiving
      pub verdict_is : verdict ≡ first (receive_checks edition (length line) (length room))
      unfolding receive_verdict
      verdict_is = first_after 2 (check 4 (short_slice (length summary) (length counters))) (receive_checks edition (length line) (length room)) long

      -- and both are long enough
      neither : (a b : Bool) → a || b ≡ false → (a ≡ false) × (b ≡ false)
      neither true b e = absurd (true≢false e)
      neither false b e = (refl, e)

      pub long_summary : 8 * receive_length ≤ length summary
      long_summary = ltb-false (length summary) (8 * receive_length) (neither (too_short 8 receive_length (length summary)) (too_short 4 8 (length counters)) long).0

      pub long_counters : 32 ≤ length counters
      long_counters = ltb-false (length counters) 32 (neither (too_short 8 receive_length (length summary)) (too_short 4 8 (length counters)) long).1

      -- a refusal
      pub refused_so : (number place : ℕ) (room' : List ℕ) → Answer.refused number place ≡ receive_answer edition line (length room) → room' ≡ receive_room edition line room
          → ReceivesThroughC edition line room summary counters (number + 256 * place) room' (summary_with receive_length (replicate receive_length 0) summary) counters
      unfolding receive_room
      refused_so number place room' e r =
          let c : first (receive_checks edition (length line) (length room)) ≡ refused number place = sym (ap verdict_received e ∙ verdict_told line (length room)) in
          let t = refuses number place (verdict_is ∙ c) in
          (t.0, r ∙ rw c t.1, t.2, t.3)

      -- an answer
      pub received_so : (s : Summary) (old new : Counters) (room' summary' counters' : List ℕ) → received s ≡ receive_answer edition line (length room) → room' ≡ receive_room edition line room
          → summary' ≡ word_bytes 8 (receive_words (received s)) ++ drop (8 * receive_length) summary
          → old ≡ counters_in counters → new ≡ counters_after old (receive_answer edition line (length room)) → counters' ≡ counters_with new counters
          → ReceivesThroughC edition line room summary counters 0 room' summary' counters'
      unfolding receive_answer receive_result receive_vectors receive_summary receive_counters
      received_so s old new room' summary' counters' e r w o n k =
          let a : first (receive_checks edition (length line) (length room)) ≡ accepted = sym (ap verdict_received e ∙ verdict_told line (length room)) in
          let v : verdict ≡ accepted = verdict_is ∙ a in
          let z : received s ≡ received (summary_of (edition_of edition) line) = e ∙ ap (λ (u : Verdict). by_verdict u (received (summary_of (edition_of edition) line)) Answer.refused) a in
          let t : receive_answer edition line (length room) ≡ received (summary_of (edition_of edition) line) = sym e ∙ z in (
            sym (ap result_of v),
            r ∙ rw v refl,
            w ∙ ap (λ (x : ReceiveAnswer). word_bytes 8 (receive_words x) ++ drop (8 * receive_length) summary) z
                ∙ sym (summary_long receive_length (receive_words (received (summary_of (edition_of edition) line))) summary long_summary) ∙ rw v refl,
            k ∙ ap (λ (x : Counters). counters_with x counters) (n ∙ ap₂ counters_after o t) ∙ rw v refl,
          )
