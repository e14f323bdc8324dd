-- Demand 1 of records through C, proved over the definitions. Assumes nothing.
use Prim.Native.Nat.{ℕ, ◌+◌, ◌*◌, ◌%◌, ◌^◌, ◌≤◌, ◌<◌}
use mathlib.Core.Path.{◌≡◌, refl, sym, ap, ◌∙◌}
use mathlib.Core.Bool.{Bool, true, false, cond}
use mathlib.Core.List.{List, [], ◌∷◌, ◌++◌}
use native.Mathlib.Omega.{arith}
use lib.ListN.{length, drop, replicate}
use lib.Dec.{leb}
use borrow.Author.Tests.{leb-false}
use Rattle.refusals.specs.First.{Check, check, Verdict, accepted, refused, first, by_verdict}
use Rattle.refusals.proofs.Outcome.{outcome, outcome_in_room}
use Rattle.records.specs.Record.{body_limit, read_checks, Answer, whole, end, read_at}
use Rattle.records.specs.Record as Record
use Rattle.record_writing.specs.Writing.{record_of, write_checks}
use Rattle.record_writing.proofs.Demand1.{room_by_record}
use Rattle.lent_words.specs.Words.{result_of, word_bytes, too_short, summary_with}
use Rattle.lent_words.proofs.Laws.{verdict_result, zero_words}
use Rattle.holzmotte_records.specs.Boundary.{reading_checks, reading_result, record_words, limit_for}
use Rattle.holzmotte_records.specs.Demand1.{Demand1OfReadThroughC, WholePlace, Demand1OfWriteThroughC}
use Rattle.holzmotte_records.proofs.Through.{verdict_of, reading_verdict}

-- ---- reading

-- what a call came to, by the reader's answer and by whether the summary is too short
module _ (summary : List ℕ) (r : ℕ) (summary' : List ℕ) where
  abbrev CameTo : Answer → Bool → Type 0
  CameTo a short =
      ◌≡◌ {A = ℕ × List ℕ} (r, summary')
      (by_verdict (by_verdict (verdict_of a) (cond short (refused 4 0) accepted) refused) (0, word_bytes 8 (record_words a) ++ drop 40 summary)
      (λ number at. ((number + 256 * at) % 2 ^ 64, cond short summary (replicate 40 0 ++ drop 40 summary))))

  came : (a : Answer) (short : Bool) → r ≡ result_of (by_verdict (verdict_of a) (cond short (refused 4 0) accepted) refused) % 2 ^ 64
      → summary' ≡ cond short summary (word_bytes 8 (record_words a) ++ drop 40 summary) → CameTo a short
  came (whole kind start len next) true e f = λ i. (e i, f i)
  came (whole kind start len next) false e f = λ i. (e i, f i)
  came end true e f = λ i. (e i, f i)
  came end false e f = λ i. (e i, f i)
  came (Record.refused number at) true e f = λ i. (e i, f i)
  came (Record.refused number at) false e f = λ i. (e i, (f ∙ ap (λ (l : List ℕ). l ++ drop 40 summary) (zero_words 5)) i)

pub demand_1_of_read_through_c : Demand1OfReadThroughC
unfolding reading_result summary_with
demand_1_of_read_through_c file place summary r summary' p =
    let v = reading_verdict file place (length summary) in
    let c =
    came summary r summary' (read_at body_limit file place) (too_short 8 5 (length summary))
    (p.0 ∙ ap (λ (x : Verdict). result_of x % 2 ^ 64) v) p.1
    in
    outcome (reading_checks file place (length summary)) _ _ _
    (c
    ∙ ap
    (λ (x : Verdict). by_verdict x (0, word_bytes 8 (record_words (read_at body_limit file place)) ++ drop 40 summary)
    (λ (number at : ℕ). ((number + 256 * at) % 2 ^ 64, cond (too_short 8 5 (length summary)) summary (replicate 40 0 ++ drop 40 summary)))) (sym v))

-- ---- the place of a refused read

-- each check's number fits a byte, and its place 56 bits
abbrev Fit : List Check → Type 0
Fit [] = Unit
Fit (c ∷ cs) = (c.number < 256) × (c.place < 2 ^ 56) × Fit cs

result_by : (b : Bool) (n p : ℕ) (v : Verdict) → n < 256 → p < 2 ^ 56 → result_of v < 2 ^ 64 → result_of (cond b (refused n p) v) < 2 ^ 64
result_by true n p v h k l = omega arith
result_by false n p v h k l = l

-- so the result fits 64
result_fits : (cs : List Check) → Fit cs → result_of (first cs) < 2 ^ 64
unfolding first
result_fits [] f = omega arith
result_fits (c ∷ cs) f = result_by c.applies c.number c.place (first cs) f.0 f.1 (result_fits cs f.2)

-- of the reader's checks and the summary's
fit : (file : List ℕ) (place : ℕ) (short b : Bool) → length file ≤ 2 ^ 56 → leb (length file) place ≡ b
    → Fit (cond b [] (read_checks body_limit file place) ++ check 4 short ∷ [])
unfolding read_checks
fit file place short true h e = (omega arith, omega arith, tt)
fit file place short false h e =
    let l : place < 2 ^ 56 = omega (arith, leb-false (length file) place e) in
    (omega arith, l, (omega arith, l, (omega arith, l, (omega arith, l, (omega arith, l, (omega arith, omega arith, tt))))))

pub whole_place : WholePlace
unfolding reading_result reading_checks
whole_place file place summary h =
    let l = result_fits (reading_checks file place summary) (fit file place (too_short 8 5 summary) (leb (length file) place) h refl) in
    mod_small (result_of (first (reading_checks file place summary))) l
  where
    mod_small : (n : ℕ) → n < 2 ^ 64 → n % 2 ^ 64 ≡ n
    mod_small n l = omega arith

-- ---- writing

pub demand_1_of_write_through_c : Demand1OfWriteThroughC
demand_1_of_write_through_c kind body wide room r room' p =
    outcome_in_room (write_checks (limit_for wide) kind body (length room)) _ _ _ _ (record_of kind body) room
    (p.0 ∙ verdict_result (first (write_checks (limit_for wide) kind body (length room)))) (p.1 ∙ room_by_record (limit_for wide) kind body room)
