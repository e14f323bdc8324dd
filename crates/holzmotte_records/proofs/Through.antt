-- What reading and writing a record through C come to, by what the reader and the writer answered. Assumes nothing.
use Prim.Native.Nat.{ℕ, ◌+◌, ◌*◌, ◌%◌, ◌^◌, ◌<◌}
use mathlib.Core.Path.{◌≡◌, refl, sym, ap, ◌∙◌}
use mathlib.Core.Bool.{Bool, true, false, cond}
use mathlib.Core.List.{List, [], ◌∷◌}
use native.Mathlib.Omega.{arith}
use lib.ListN.{length, replicate}
use lib.Dec.{leb}
use Rattle.refusals.specs.First.{check, Verdict, accepted, refused, first, by_verdict}
use Rattle.refusals.proofs.Laws.{first_append}
use Rattle.std.specs.Prelude.{Option, Some, None}
use Rattle.records.specs.Record.{body_limit, read_checks, Answer, whole, end, read_at, found}
use Rattle.records.specs.Record as Record
use Rattle.records.specs.declared.Record.{Record}
use Rattle.record_writing.specs.Writing.{write_checks, WriteAnswer, wrote, unwritten, write_answer}
use Rattle.lent_words.specs.Words.{result_of, too_short, summary_with}
use Rattle.holzmotte_records.specs.Boundary.{reading_checks, reading_result, record_words, ReadsThroughC}

-- ---- reading

-- the verdict on a summary of so many bytes, where the reader accepts
abbrev pub on_summary : (bytes : ℕ) → Verdict
on_summary bytes = cond (too_short 8 5 bytes) (refused 4 0) accepted

-- the verdict of the reader
abbrev pub verdict_of : Answer → Verdict
verdict_of (whole kind start len next) = accepted
verdict_of end = accepted
verdict_of (Record.refused number place) = refused number place

-- its answer tells it
told_by : (v : Verdict) (kind start len next : ℕ) → v ≡ verdict_of (by_verdict v (whole kind start len next) Record.refused)
told_by accepted kind start len next = refl
told_by (refused number place) kind start len next = refl

-- the reader's checks, then the summary's
module _ (file : List ℕ) (place summary : ℕ) where
  by_end : (b : Bool) (kind start len next : ℕ)
      → first (cond b [] (read_checks body_limit file place))
      ≡ verdict_of (cond b end (by_verdict (first (read_checks body_limit file place)) (whole kind start len next) Record.refused))
  unfolding first
  by_end true kind start len next = refl
  by_end false kind start len next = told_by (first (read_checks body_limit file place)) kind start len next

  pub reading_verdict : first (reading_checks file place summary)
      ≡ by_verdict (verdict_of (read_at body_limit file place)) (on_summary summary) refused
  unfolding reading_checks read_at first
  reading_verdict =
      first_append (cond (leb (length file) place) [] (read_checks body_limit file place)) (check 4 (too_short 8 5 summary) ∷ [])
      ∙ ap (λ (v : Verdict). by_verdict v (on_summary summary) refused) (by_end (leb (length file) place) _ _ _ _)

-- 4 or 0 as a result
short_result : (short : Bool) → cond short 4 0 ≡ result_of (cond short (refused 4 0) accepted) % 2 ^ 64
short_result true = refl
short_result false = refl

-- a number and 256 times a place, in 64 bits
in_64_bits : (number place : ℕ) → number < 256 → number + 256 * (place % 2 ^ 56) ≡ (number + 256 * place) % 2 ^ 64
in_64_bits number place h = omega arith

module _ (file : List ℕ) (place : ℕ) (summary : List ℕ) (r : ℕ) (summary' : List ℕ) where
  -- by the reader's answer
  by_answer : (a : Answer) → a ≡ read_at body_limit file place
      → r ≡ result_of (by_verdict (verdict_of a) (on_summary (length summary)) refused) % 2 ^ 64
      → summary' ≡ summary_with 5 (record_words a) summary → ReadsThroughC file place summary r summary'
  unfolding reading_result
  by_answer a e f g = (
    f ∙ ap (λ (x : Answer). result_of (by_verdict (verdict_of x) (on_summary (length summary)) refused) % 2 ^ 64) e
        ∙ ap (λ (v : Verdict). result_of v % 2 ^ 64) (sym (reading_verdict file place (length summary))),
    g ∙ ap (λ (x : Answer). summary_with 5 (record_words x) summary) e,
  )

  -- what so many words answer, and what they leave
  abbrev by_words : List ℕ → ℕ
  by_words words = cond (too_short 8 (length words) (length summary)) 4 0

  abbrev after_words : List ℕ → List ℕ
  after_words words = summary_with (length words) words summary

  -- a record or none, and its words
  pub reads_found : (a : Option Record) (words : List ℕ) → found a ≡ read_at body_limit file place → words ≡ record_words (found a)
      → r ≡ by_words words → summary' ≡ after_words words
      → ReadsThroughC file place summary r summary'
  reads_found (Some x) words e w f g =
      by_answer (found (Some x)) e (f ∙ ap by_words w ∙ short_result (too_short 8 5 (length summary))) (g ∙ ap after_words w)
  reads_found None words e w f g =
      by_answer (found None) e (f ∙ ap by_words w ∙ short_result (too_short 8 5 (length summary))) (g ∙ ap after_words w)

  -- a refusal
  pub reads_refused : (number at : ℕ) → Record.refused number at ≡ read_at body_limit file place → number < 256 → r ≡ number + 256 * (at % 2 ^ 56)
      → summary' ≡ summary_with 5 (replicate 5 0) summary → ReadsThroughC file place summary r summary'
  reads_refused number at e l f g = by_answer (Record.refused number at) e (f ∙ in_64_bits number at l) g

-- ---- writing: the verdict of the writer
abbrev verdict_written : WriteAnswer → Verdict
verdict_written (wrote n) = accepted
verdict_written (unwritten number place) = refused number place

written_by_lem : (v : Verdict) (n : ℕ) → verdict_written (by_verdict v (wrote n) unwritten) ≡ v
written_by_lem accepted n = refl
written_by_lem (refused number place) n = refl

-- so its answer tells the result
pub writes : (limit kind : ℕ) (body room : List ℕ) (a : WriteAnswer) → a ≡ write_answer limit kind body room
    → result_of (verdict_written a) ≡ result_of (first (write_checks limit kind body (length room)))
unfolding write_answer
writes limit kind body room a e =
    ap result_of (ap verdict_written e ∙ written_by_lem (first (write_checks limit kind body (length room))) (length body + 4))
