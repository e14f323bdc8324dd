-- What counting answers, by the checks of the vectors and of the range. Assumes nothing.
use Prim.Native.Nat.{ℕ, ◌*◌, ◌<◌, ◌≤◌}
use Rattle.std.specs.Prelude.{Err}
use mathlib.Core.Path.{◌≡◌, sym, ◌∙◌}
use mathlib.Core.Bool.{true, false, ◌||◌}
use mathlib.Core.List.{List, [], ◌∷◌}
use lib.Dec.{ltb}
use lib.ListN.{length}
use borrow.Author.Tests.{lt-ltb, le-ltb, eq-eqb, ne_eqb}
use Rattle.refusals.specs.Number.{number_of}
use Rattle.refusals.specs.declared.Refused.{Refused}
use Rattle.refusals.specs.First.{Check, check, accepted, first}
use Rattle.refusals.specs.First as First
use Rattle.refusals.proofs.Laws.{applied, skipped, accepts}
use Rattle.block.specs.Block.{vector_list}
use Rattle.vector_checks.specs.Checks.{vector_checks}
use Rattle.vector_checks.proofs.Laws.{stopped, went_on}
use Rattle.index.specs.Index.{entry_count}
use Rattle.index.specs.Answer.{wrong_length}
use Rattle.index_count.specs.Answer.{refused, count_checks, counts_with, count_answer, answer_of}

module _ (bytes index : List ℕ) (a b : ℕ) where
  abbrev out : Check
  out = check 11 (ltb b a || ltb (length (vector_list bytes)) b || wrong_length bytes (length index))

  -- the vectors are refused
  pub bad_vectors : (r : Refused) → First.refused (number_of r.0) r.1 ≡ first (vector_checks bytes) → answer_of (Err r) ≡ count_answer bytes index a b
  unfolding count_answer count_checks
  bad_vectors r e = stopped bytes (out ∷ []) (counts_with bytes index a b) refused (number_of r.0) r.1 e

  module _ (s : accepted ≡ first (vector_checks bytes)) where
    range : out.applies ≡ true → refused 11 0 ≡ count_answer bytes index a b
    unfolding count_answer count_checks
    range t = went_on bytes (out ∷ []) (counts_with bytes index a b) refused s (First.refused 11 0) (sym (applied out [] t))

    -- a after b, b past the end, or an index of the wrong length
    pub after : b < a → refused 11 0 ≡ count_answer bytes index a b
    after l = range (rw (lt-ltb b a l))

    pub past : a ≤ b → length (vector_list bytes) < b → refused 11 0 ≡ count_answer bytes index a b
    past l m = range (rw (le-ltb b a l, lt-ltb (length (vector_list bytes)) b m))

    module _ (l : a ≤ b) (m : b ≤ length (vector_list bytes)) where
      pub bad_index : (length index ≡ 8 * entry_count (vector_list bytes) → ⊥) → refused 11 0 ≡ count_answer bytes index a b
      bad_index n = range (rw (le-ltb b a l, le-ltb (length (vector_list bytes)) b m, ne_eqb (length index) (8 * entry_count (vector_list bytes)) n))

      pub counted : length index ≡ 8 * entry_count (vector_list bytes) → counts_with bytes index a b ≡ count_answer bytes index a b
      unfolding count_answer count_checks
      counted n =
          let f : out.applies ≡ false = rw (le-ltb b a l, le-ltb (length (vector_list bytes)) b m, eq-eqb (length index) (8 * entry_count (vector_list bytes)) n) in
          went_on bytes (out ∷ []) (counts_with bytes index a b) refused s accepted (sym (skipped out [] f ∙ accepts))
