-- The definitions compute: worked examples, each by `refl`. A reviewer can skip this file.
use Rattle.std.specs.Prelude.{ℕ, zero, suc, ◌≡◌, refl, List, [], ◌∷◌, ◌++◌, replicate}
use Rattle.bits.specs.Bits.{bit, number, stream_bit, line_bit}
use Rattle.bits.specs.Lists.{how_many}
use Rattle.refusals.specs.First.{first}
use Rattle.control_bytes.specs.Control.{high_from, high_control}
use Rattle.lent_words.specs.Words.{word_at}
use Rattle.block.specs.Block.{vectors_in, kind_for, carrier, vector_kind, error_vector}
use Rattle.index_count.specs.Answer.{counts, refused, count_checks, count_answer}

abbrev error_vectors : ℕ → List ℕ
error_vectors zero = []
error_vectors (suc n) = error_vector ++ error_vectors n

-- 68 error vectors have two entries. With their index: those from vector 60 up to but not 66.
count_six : count_answer (error_vectors 68) (replicate 8 0 ++ 64 ∷ replicate 7 0) 60 66 ≡ counts 6 0
unfolding count_answer count_checks first high_control high_from vectors_in how_many vector_kind carrier kind_for word_at line_bit stream_bit number bit
count_six = refl

-- with foreign ones the result is held to 0 and to b - a
count_none : count_answer (error_vectors 68) (replicate 8 255 ++ replicate 8 0) 0 68 ≡ counts 0 0
unfolding count_answer count_checks first high_control high_from vectors_in how_many vector_kind carrier kind_for word_at line_bit stream_bit number bit
count_none = refl

count_most : count_answer (error_vectors 68) (replicate 8 0 ++ replicate 8 255) 0 68 ≡ counts 68 68
unfolding count_answer count_checks first high_control high_from vectors_in how_many vector_kind carrier kind_for word_at line_bit stream_bit number bit
count_most = refl

-- an index of one byte less, and b past the end
count_short : count_answer (error_vectors 4) (replicate 7 0) 0 4 ≡ refused 11 0
unfolding count_answer count_checks first high_control high_from vectors_in
count_short = refl

count_past : count_answer (error_vectors 4) (replicate 8 0) 0 5 ≡ refused 11 0
unfolding count_answer count_checks first high_control high_from vectors_in
count_past = refl
