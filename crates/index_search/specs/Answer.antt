-- What finding an error vector with an index answers: document 02, 8/13.
use Rattle.std.specs.Prelude.{ℕ, ◌+◌, ◌*◌, List, [], ◌∷◌, ◌++◌, length, leb, Result}
use Rattle.refusals.specs.First.{Check, check, first, by_verdict}
use Rattle.refusals.specs.Refused.{by_result}
use Rattle.refusals.specs.declared.Refused.{Refused}
use Rattle.block.specs.Block.{vector_list}
use Rattle.vector_checks.specs.Checks.{vector_checks}
use Rattle.index.specs.Answer.{wrong_length}
use Rattle.index_search.specs.Search.{searched, after_entry, passed_by}
use Rattle.index_search.specs.declared.Halved.{Halved}
use Rattle.index_search.specs.declared.Place.{Place}

-- the number of a vector, and "how many entries it read"; or a refusal's number and place
pub data FindAnswer : Type 0 where
  found : (vector read : ℕ) → FindAnswer
  refused : (number place : ℕ) → FindAnswer

module _ (bytes index : List ℕ) (n : ℕ) where
  -- the entry that remains, and the entries read
  abbrev pub search_in : Halved
  search_in = searched (vector_list bytes) index n

  -- "12, no such vector": none of those after the entry
  abbrev pub no_such : Check
  no_such = check 12 (leb (length (after_entry (vector_list bytes) search_in.entry)) (passed_by (vector_list bytes) index n search_in.entry))

  -- "11, .. an index of the wrong length, handed in .., checked after 1, 2 and 5; 12"
  unfoldable pub find_checks : List Check
  find_checks = vector_checks bytes ++ check 11 (wrong_length bytes (length index)) ∷ no_such ∷ []

  -- with any index
  abbrev pub found_with : FindAnswer
  found_with = found (64 * search_in.entry + passed_by (vector_list bytes) index n search_in.entry) search_in.read

  unfoldable pub find_answer : FindAnswer
  find_answer = by_verdict (first find_checks) found_with refused

-- the document's number and values for each case of the answer
abbrev pub answer_of : Result Place Refused → FindAnswer
answer_of = by_result (λ place. found place.vector place.read) refused
