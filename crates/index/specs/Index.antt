-- Document 02, 8/13: the index that is kept beside a list of vectors.
use Rattle.std.specs.Prelude.{ℕ, zero, suc, ◌+◌, ◌*◌, ◌/◌, List, [], ◌∷◌, ◌++◌, length, take}
use Rattle.bits.specs.Lists.{how_many}
use Rattle.lent_words.specs.Words.{word_bytes, word_at}
use Rattle.block.specs.Block.{is_error_vector}
use Rattle.vector_tests.specs.Tests.{of_kind_s}

-- an entry: "how many error vectors and vectors of kind S stand before" vector m
abbrev pub entry_at : List (List ℕ) → ℕ → List ℕ
entry_at vs m = how_many is_error_vector (take m vs) ∷ how_many of_kind_s (take m vs) ∷ []

-- the first k entries, "at each multiple of 64"
unfoldable pub entries_to : List (List ℕ) → ℕ → List ℕ
entries_to vs zero = []
entries_to vs (suc k) = entries_to vs k ++ entry_at vs (64 * k)

-- "from 0 to the number of vectors": how many entries there are
abbrev pub entry_count : List (List ℕ) → ℕ
entry_count vs = length vs / 64 + 1

-- the index: an entry is two words of 32 bits, 8 bytes
unfoldable pub index_for : List (List ℕ) → List ℕ
index_for vs = word_bytes 4 (entries_to vs (entry_count vs))

-- the two numbers of entry k of any index
abbrev pub errors_at : List ℕ → ℕ → ℕ
errors_at index k = word_at 4 index (2 * k)

abbrev pub starts_at : List ℕ → ℕ → ℕ
starts_at index k = word_at 4 index (2 * k + 1)
