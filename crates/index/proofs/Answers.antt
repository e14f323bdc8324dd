-- What building answers, by the checks of the vectors and of the index. Assumes nothing.
use Prim.Native.Nat.{ℕ, ◌*◌}
use Rattle.std.specs.Prelude.{Ok, Err}
use mathlib.Core.Path.{◌≡◌, sym, ap, ◌∙◌}
use mathlib.Core.Bool.{not}
use mathlib.Core.List.{List, [], ◌∷◌}
use lib.ListN.{length}
use borrow.Author.Tests.{eq-eqb, ne_eqb}
use Rattle.refusals.specs.Number.{number_of}
use Rattle.refusals.specs.declared.Refused.{Refused}
use Rattle.refusals.specs.declared.Refusal.TheVariants.{Range}
use Rattle.refusals.specs.First.{Check, check, accepted, first}
use Rattle.refusals.specs.First as First
use Rattle.refusals.proofs.Laws.{applied, skipped, accepts}
use Rattle.block.specs.Block.{vector_list}
use Rattle.vector_checks.specs.Checks.{vector_checks}
use Rattle.vector_checks.proofs.Laws.{stopped, went_on}
use Rattle.index.specs.Index.{entry_count, index_for}
use Rattle.index.specs.Answer.{built, refused, wrong_length, build_checks, build_answer, index_after, Builds}

module _ (bytes index : List ℕ) where
  abbrev later : List Check
  later = check 11 (wrong_length bytes (length index)) ∷ []

  -- the vectors are refused
  pub bad_vectors : (r : Refused) → First.refused (number_of r.0) r.1 ≡ first (vector_checks bytes) → Builds bytes index (Err r) index
  unfolding build_answer index_after build_checks
  bad_vectors r e =
      (stopped bytes later built refused (number_of r.0) r.1 e, stopped bytes later (index_for (vector_list bytes)) (λ number place. index) (number_of r.0) r.1 e)

  -- by the length of the index
  length_wrong : (length index ≡ 8 * entry_count (vector_list bytes) → ⊥) → First.refused 11 0 ≡ first later
  length_wrong n = sym (applied (check 11 (wrong_length bytes (length index))) [] (ap not (ne_eqb (length index) (8 * entry_count (vector_list bytes)) n)))

  length_right : length index ≡ 8 * entry_count (vector_list bytes) → accepted ≡ first later
  length_right n = sym (skipped (check 11 (wrong_length bytes (length index))) [] (ap not (eq-eqb (length index) (8 * entry_count (vector_list bytes)) n)) ∙ accepts)

  module _ (a : accepted ≡ first (vector_checks bytes)) where
    pub bad_index : (length index ≡ 8 * entry_count (vector_list bytes) → ⊥) → Builds bytes index (Err (record { 0 = Range; 1 = 0 })) index
    unfolding build_answer index_after build_checks
    bad_index n = (
      went_on bytes later built refused a (First.refused 11 0) (length_wrong n),
      went_on bytes later (index_for (vector_list bytes)) (λ number place. index) a (First.refused 11 0) (length_wrong n),
    )

    pub done : length index ≡ 8 * entry_count (vector_list bytes) → Builds bytes index (Ok tt) (index_for (vector_list bytes))
    unfolding build_answer index_after build_checks
    done n = (
      went_on bytes later built refused a accepted (length_right n),
      went_on bytes later (index_for (vector_list bytes)) (λ number place. index) a accepted (length_right n),
    )
