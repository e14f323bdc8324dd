-- The definitions compute: worked examples, each by `refl`. A reviewer can skip this file.
use Rattle.std.specs.Prelude.{ℕ, zero, suc, ◌≡◌, refl, List, [], ◌∷◌, ◌++◌}
use Rattle.bits.specs.Bits.{bit, number, cut}
use Rattle.bits.specs.Lists.{how_many}
use Rattle.block.specs.Block.{kind_for, carrier, vector_kind, error_vector, local_fault_vector}
use Rattle.index.specs.Index.{entries_to, index_for}

-- Start in character 0; Start in character 4, after four low power idles
abbrev frame_vector : List ℕ
frame_vector = 0x01 ∷ 0xfb ∷ 0x55 ∷ 0x55 ∷ 0x55 ∷ 0x00 ∷ 0x55 ∷ 0x55 ∷ 0x55 ∷ 0xd5 ∷ []

abbrev late_vector : List ℕ
late_vector = 0x0f ∷ 0x06 ∷ 0x06 ∷ 0x06 ∷ 0x06 ∷ 0x01 ∷ 0xfb ∷ 0x55 ∷ 0x55 ∷ 0x55 ∷ []

abbrev several : ℕ → List (List ℕ) → List (List ℕ)
several zero vs = []
several (suc n) vs = vs ++ several n vs

-- four vectors have one entry: nothing stands before it
index_of_four : index_for (several 1 (frame_vector ∷ error_vector ∷ late_vector ∷ local_fault_vector ∷ [])) ≡ 0 ∷ 0 ∷ 0 ∷ 0 ∷ 0 ∷ 0 ∷ 0 ∷ 0 ∷ []
unfolding index_for entries_to how_many cut number bit
index_of_four = refl

-- 64 vectors have two: before the second stand 16 error vectors and 32 vectors of kind S
index_of_64 : index_for (several 16 (frame_vector ∷ error_vector ∷ late_vector ∷ local_fault_vector ∷ [])) ≡ 0 ∷ 0 ∷ 0 ∷ 0 ∷ 0 ∷ 0 ∷ 0 ∷ 0 ∷ 16 ∷ 0 ∷ 0 ∷ 0 ∷ 32 ∷ 0 ∷ 0 ∷ 0 ∷ []
unfolding index_for entries_to how_many vector_kind carrier kind_for cut number bit
index_of_64 = refl
