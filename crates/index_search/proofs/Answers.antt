-- What finding answers, by the checks of the vectors and of the index, and by what is found. Assumes nothing.
use Prim.Native.Nat.{ℕ, ◌+◌, ◌*◌, ◌/◌, ◌-◌, ◌<◌, ◌≤◌, min}
use Rattle.std.specs.Prelude.{Err}
use mathlib.Core.Path.{◌≡◌, sym, ap, ap₂, ◌∙◌}
use mathlib.Core.Bool.{true, false, not}
use mathlib.Core.List.{List, [], ◌∷◌}
use native.Mathlib.Omega.{arith}
use lib.Dec.{leb}
use lib.ListN.{length, take, drop, length-drop}
use borrow.Author.Tests.{le-leb, lt-leb, eq-eqb, ne_eqb}
use Rattle.refusals.specs.Number.{number_of}
use Rattle.refusals.specs.declared.Refused.{Refused}
use Rattle.refusals.specs.First.{Check, check, accepted, first, by_verdict}
use Rattle.refusals.specs.First as First
use Rattle.refusals.proofs.Laws.{applied, skipped, accepts}
use Rattle.block.specs.Block.{vectors_in, vector_list}
use Rattle.block.proofs.Vectors.{length_vectors}
use Rattle.vector_checks.specs.Checks.{vector_checks}
use Rattle.vector_checks.proofs.Laws.{stopped, went_on}
use Rattle.index.specs.Index.{entry_count, errors_at}
use Rattle.index.specs.Answer.{wrong_length}
use Rattle.index.proofs.Reading.{entry_count_lem}
use Rattle.vector_tests.proofs.Parts.{list_part}
use Rattle.index_search.specs.Search.{before_nth, halved, after_entry, passed_by}
use Rattle.index_search.specs.Answer.{found, refused, search_in, no_such, find_checks, found_with, find_answer, answer_of}
use Rattle.index_search.specs.Parts.{found_by}
use Rattle.index_search.specs.declared.Halved.{Halved}
use Rattle.index_search.proofs.Halving.{Halves, halves_bracket}
use Rattle.index_search.proofs.Nth.{after_vectors}

module _ (bytes index : List ℕ) (n : ℕ) where
  abbrev out : Check
  out = check 11 (wrong_length bytes (length index))

  -- the vectors are refused
  pub bad_vectors : (r : Refused) → First.refused (number_of r.0) r.1 ≡ first (vector_checks bytes) → answer_of (Err r) ≡ find_answer bytes index n
  unfolding find_answer find_checks
  bad_vectors r e = stopped bytes (out ∷ no_such bytes index n ∷ []) (found_with bytes index n) refused (number_of r.0) r.1 e

  module _ (s : accepted ≡ first (vector_checks bytes)) where
    -- the index is of the wrong length
    pub bad_index : (length index ≡ 8 * entry_count (vector_list bytes) → ⊥) → refused 11 0 ≡ find_answer bytes index n
    unfolding find_answer find_checks
    bad_index d =
        let t : out.applies ≡ true = ap not (ne_eqb (length index) (8 * entry_count (vector_list bytes)) d) in
        went_on bytes (out ∷ no_such bytes index n ∷ []) (found_with bytes index n) refused s (First.refused 11 0) (sym (applied out (no_such bytes index n ∷ []) t))

    -- 12 alone is left to check
    pub looked : length index ≡ 8 * entry_count (vector_list bytes) → found_by bytes index n ≡ find_answer bytes index n
    unfolding find_answer find_checks
    looked e =
        let f : out.applies ≡ false = ap not (eq-eqb (length index) (8 * entry_count (vector_list bytes)) e) in
        went_on bytes (out ∷ no_such bytes index n ∷ []) (found_with bytes index n) refused s (first (no_such bytes index n ∷ [])) (sym (skipped out (no_such bytes index n ∷ []) f))

  -- ---- what the code comes to, after the halving

  module _ (len : ℕ) (h : Halved) (all : len ≡ entry_count (vector_list bytes)) (hs : Halves index n 0 len h) where
    is_searched : h ≡ search_in bytes index n
    is_searched = hs (entry_count (vector_list bytes)) (omega arith) ∙ ap (λ (l : ℕ). halved (entry_count (vector_list bytes)) index n 0 l) all

    -- the entry that remains is one of the index, and its vectors stand in the list
    pub within : h.entry < entry_count (vector_list bytes)
    within = omega (arith, (halves_bracket index n 0 len h (omega arith) hs).below)

    pub inside : 64 * h.entry ≤ length bytes / 10
    inside = omega (arith, within, entry_count_lem bytes)

    -- the vectors after that entry, as a part of the bytes
    pub part : (to m k : ℕ) → to ≡ min (64 * h.entry + 64) (length bytes / 10) → k ≡ 10 * (64 * h.entry) → m ≡ 10 * to - k
        → vector_list (take m (drop k bytes)) ≡ vectors_in (to - 64 * h.entry) (drop (10 * (64 * h.entry)) bytes)
    part to m k e f g =
        let n : m ≡ 10 * (to - 64 * h.entry) = omega (arith, inside) in
        ap₂ (λ (x y : ℕ). vector_list (take x (drop y bytes))) n f
        ∙ list_part (to - 64 * h.entry) (drop (10 * (64 * h.entry)) bytes) (omega (arith, inside, length-drop (10 * (64 * h.entry)) bytes))

    module _ (left after passed : ℕ) (e : left ≡ n - errors_at index h.entry) (a : after ≡ min 64 (length bytes / 10 - 64 * h.entry))
        (p : passed ≡ before_nth left (vectors_in after (drop (10 * (64 * h.entry)) bytes))) where
      vectors_are : after_entry (vector_list bytes) h.entry ≡ vectors_in after (drop (10 * (64 * h.entry)) bytes)
      vectors_are = after_vectors bytes h.entry after inside a

      passed_are : passed ≡ passed_by (vector_list bytes) index n (search_in bytes index n).entry
      passed_are =
          p ∙ ap₂ before_nth e (sym vectors_are) ∙ ap (λ (k : Halved). passed_by (vector_list bytes) index n k.entry) is_searched

      after_are : after ≡ length (after_entry (vector_list bytes) (search_in bytes index n).entry)
      after_are =
          sym (length_vectors after (drop (10 * (64 * h.entry)) bytes)) ∙ ap (λ (v : List (List ℕ)). length v) (sym vectors_are)
          ∙ ap (λ (k : Halved). length (after_entry (vector_list bytes) k.entry)) is_searched

      pub none_there : after ≤ passed → refused 12 0 ≡ found_by bytes index n
      none_there l =
          let t : (no_such bytes index n).applies ≡ true = ap₂ leb (sym after_are) (sym passed_are) ∙ le-leb after passed l in
          ap (λ (v : First.Verdict). by_verdict v (found_with bytes index n) refused) (sym (applied (no_such bytes index n) [] t))

      pub one_there : passed < after → found (64 * h.entry + passed) h.read ≡ found_by bytes index n
      one_there l =
          let f : (no_such bytes index n).applies ≡ false = ap₂ leb (sym after_are) (sym passed_are) ∙ lt-leb after passed l in
          ap₂ (λ (k : Halved) (q : ℕ). found (64 * k.entry + q) k.read) is_searched passed_are
          ∙ ap (λ (v : First.Verdict). by_verdict v (found_with bytes index n) refused) (sym (skipped (no_such bytes index n) [] f ∙ accepts))
