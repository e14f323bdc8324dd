-- The definitions compute: worked examples, each by `refl`. A reviewer can skip this file.
use Rattle.std.specs.Prelude.{ℕ, zero, suc, ◌≡◌, refl, List, [], ◌∷◌, ◌++◌, replicate}
use Rattle.bits.specs.Bits.{bit, number, stream_bit, line_bit}
use Rattle.refusals.specs.First.{first}
use Rattle.control_bytes.specs.Control.{high_from, high_control}
use Rattle.lent_words.specs.Words.{word_at}
use Rattle.block.specs.Block.{vectors_in, error_vector, local_fault_vector}
use Rattle.index_search.specs.Search.{before_nth, halved}
use Rattle.index_search.specs.Answer.{found, refused, find_checks, find_answer}

abbrev some_errors : ℕ → List ℕ
some_errors zero = []
some_errors (suc n) = local_fault_vector ++ error_vector ++ some_errors n

-- 136 vectors, every second an error vector, have three entries. The 40th is vector 79: entries 1 and, once it remains, 1 again are read, and entry 2.
find_forty : find_answer (some_errors 68) (replicate 8 0 ++ 32 ∷ replicate 7 0 ++ 64 ∷ replicate 7 0) 40 ≡ found 79 3
unfolding find_answer find_checks first high_control high_from vectors_in before_nth halved word_at line_bit stream_bit number bit
find_forty = refl

-- there are 68, and none is counted as number 0
find_after : find_answer (some_errors 68) (replicate 8 0 ++ 32 ∷ replicate 7 0 ++ 64 ∷ replicate 7 0) 69 ≡ refused 12 0
unfolding find_answer find_checks first high_control high_from vectors_in before_nth halved word_at line_bit stream_bit number bit
find_after = refl

find_zero : find_answer (some_errors 2) (replicate 8 0) 0 ≡ refused 12 0
unfolding find_answer find_checks first high_control high_from vectors_in before_nth halved word_at line_bit stream_bit number bit
find_zero = refl

-- a foreign index leads to another error vector, or to none
find_foreign : find_answer (some_errors 68) (replicate 8 0 ++ 39 ∷ replicate 7 0 ++ 64 ∷ replicate 7 0) 40 ≡ found 65 3
unfolding find_answer find_checks first high_control high_from vectors_in before_nth halved word_at line_bit stream_bit number bit
find_foreign = refl

find_wrong_length : find_answer (some_errors 2) (replicate 9 0) 1 ≡ refused 11 0
unfolding find_answer find_checks first high_control high_from vectors_in
find_wrong_length = refl
