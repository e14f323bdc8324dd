-- Frames through C, case by case. Assumes nothing.
use Prim.Native.Nat.{ℕ, ◌+◌, ◌*◌, ◌%◌, ◌^◌, ◌≤◌, ◌<◌}
use mathlib.Core.Path.{◌≡◌, refl, sym, ap, ◌∙◌}
use mathlib.Core.Bool.{Bool, true, false, not, cond}
use mathlib.Core.List.{List, [], ◌∷◌, ◌++◌}
use native.Mathlib.Omega.{arith}
use lib.ListN.{length, take, drop}
use lib.Dec.{ltb, eqb}
use borrow.Author.Tests.{lt-ltb}
use denote.Enum.Bare.{sameb}
use Rattle.refusals.specs.contracts.Refusal.{the_type}
use Rattle.refusals.specs.declared.Refusal.{Refusal}
use Rattle.refusals.specs.declared.Refusal.TheVariants.{TooMuch, NotGroups, StartState, Room, ControlByte, Cut, LongBody, RecordKind, Closed, BadState, Range, NoSuchVector, UnknownEdition}
use Rattle.refusals.specs.Number.{number_of}
use Rattle.refusals.specs.First.{check, check_at, Verdict, accepted, refused, first, by_verdict}
use Rattle.control_bytes.specs.Control.{high_control}
use Rattle.lent_words.specs.Words.{result_of, one_more_after, word_bytes, too_short}
use Rattle.lent_words.proofs.Laws.{long_first, kept, summary_short, summary_long}
use Rattle.lent_words.proofs.Applied.{never}
use Rattle.frame_list.specs.Answer.{frames_number, ListAnswer, list_checks, list_answer, list_after}
use Rattle.frame_list.specs.Answer as Answer
use Rattle.frame_list.proofs.Answers.{verdict_of_list, verdict_told, place_small}
use Rattle.holzmotte_frames.specs.Boundary.{frames_verdict, frames_words, frames_result, frames_list, frames_summary, ListsThroughC}

-- ---- a summary too short

-- what listing into no room comes to: an answer, and a list too small, is refusal 4 for the summary
abbrev pub short_of : Verdict → ℕ
short_of accepted = 4
short_of (refused n p) = cond (eqb ((n + 256 * p) % 256) 4) 4 (n + 256 * p)

short_checks : (a b c d e : Bool) (h f : ℕ)
    → result_of (first (check 1 a ∷ check 2 b ∷ check_at 5 h c ∷ check 4 true ∷ check_at 4 f e ∷ []))
    ≡ short_of (first (check 1 a ∷ check 2 b ∷ check_at 5 h c ∷ check_at 4 f d ∷ []))
unfolding first
short_checks true b c d e h f = refl
short_checks false true c d e h f = refl
short_checks false false true d e h f =
    let z : (5 + 256 * h) % 256 ≡ 5 = omega arith in
    rw z
short_checks false false false true e h f =
    let z : (4 + 256 * f) % 256 ≡ 4 = omega arith in
    rw z
short_checks false false false false e h f = refl

pub short_answer : (bytes : List ℕ) (list summary : ℕ) (answer : ListAnswer) → answer ≡ list_answer bytes 0 → summary < 8 * 1
    → short_of (verdict_of_list answer) ≡ frames_result bytes list summary
unfolding frames_result frames_verdict list_checks
short_answer bytes list summary answer e l =
    ap short_of (ap verdict_of_list e ∙ verdict_told bytes 0)
    ∙ sym (rw (lt-ltb summary (8 * 1) l)
    (short_checks (ltb 1000000 (length bytes)) (not (eqb (length bytes % 40) 0)) (ltb (high_control bytes) (length bytes)) (ltb 0 (12 * frames_number bytes))
    (ltb list (12 * frames_number bytes)) (high_control bytes) (frames_number bytes)))

-- a refusal 4 is that of the summary
pub by_kind : (k : Refusal) (p : ℕ) → short_of (refused (number_of k) p) ≡ cond (sameb the_type k Room) 4 (number_of k + 256 * p)
by_kind TooMuch p = let z : (1 + 256 * p) % 256 ≡ 1 = omega arith in rw z
by_kind NotGroups p = let z : (2 + 256 * p) % 256 ≡ 2 = omega arith in rw z
by_kind StartState p = let z : (3 + 256 * p) % 256 ≡ 3 = omega arith in rw z
by_kind Room p = let z : (4 + 256 * p) % 256 ≡ 4 = omega arith in rw z
by_kind ControlByte p = let z : (5 + 256 * p) % 256 ≡ 5 = omega arith in rw z
by_kind Cut p = let z : (6 + 256 * p) % 256 ≡ 6 = omega arith in rw z
by_kind LongBody p = let z : (7 + 256 * p) % 256 ≡ 7 = omega arith in rw z
by_kind RecordKind p = let z : (8 + 256 * p) % 256 ≡ 8 = omega arith in rw z
by_kind Closed p = let z : (9 + 256 * p) % 256 ≡ 9 = omega arith in rw z
by_kind BadState p = let z : (10 + 256 * p) % 256 ≡ 10 = omega arith in rw z
by_kind Range p = let z : (11 + 256 * p) % 256 ≡ 11 = omega arith in rw z
by_kind NoSuchVector p = let z : (12 + 256 * p) % 256 ≡ 12 = omega arith in rw z
by_kind UnknownEdition p = let z : (13 + 256 * p) % 256 ≡ 13 = omega arith in rw z

-- a refusal's place fits a result
pub small : (bytes : List ℕ) (list number place : ℕ) → Answer.refused number place ≡ list_answer bytes list → place < 2 ^ 56
small bytes list number place e = omega (arith, place_small bytes list number place (sym (ap verdict_of_list e ∙ verdict_told bytes list)))

pub shortly : (bytes list summary : List ℕ) (result : ℕ) → length summary < 8 * 1 → result ≡ frames_result bytes (length list) (length summary)
    → ListsThroughC bytes list summary result list summary
unfolding frames_list frames_summary frames_verdict
shortly bytes list summary result l e = (e, by (frames_verdict bytes (length list) (length summary)) refl, sym (summary_short 1 _ summary l))
  where
    by : (v : Verdict) → frames_verdict bytes (length list) (length summary) ≡ v → list ≡ by_verdict v (list_after bytes list) (λ number place. list)
    by accepted h =
        absurd (never (take 3 (list_checks bytes (length list))) (check 4 (too_short 8 1 (length summary))) (drop 3 (list_checks bytes (length list)))
        (lt-ltb (length summary) (8 * 1) l) h)
    by (refused number place) h = refl

-- ---- a summary that is long enough

pub answered : (bytes list summary list' summary' : List ℕ) (answer : ListAnswer) → 8 * 1 ≤ length summary
    → answer ≡ list_answer bytes (length list) → list' ≡ list_after bytes list → summary' ≡ word_bytes 8 (frames_words answer) ++ drop 8 summary
    → ListsThroughC bytes list summary (result_of (verdict_of_list answer)) list' summary'
unfolding list_answer list_after frames_result frames_verdict frames_list frames_summary
answered bytes list summary list' summary' answer l e r s =
    let v : first (one_more_after 3 (check 4 (too_short 8 1 (length summary))) (list_checks bytes (length list))) ≡ first (list_checks bytes (length list)) =
    long_first 3 1 (length summary) (list_checks bytes (length list)) l in
    let t : verdict_of_list answer ≡ first (list_checks bytes (length list)) = ap verdict_of_list e ∙ verdict_told bytes (length list) in (
      ap result_of (t ∙ sym v),
      r ∙ rw v (sym (kept (first (list_checks bytes (length list))) _ list)),
      s ∙ ap (λ (a : ListAnswer). word_bytes 8 (frames_words a) ++ drop 8 summary) e
          ∙ sym (summary_long 1 (frames_words (list_answer bytes (length list))) summary l) ∙ rw v refl,
    )
