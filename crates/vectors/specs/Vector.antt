-- A vector as the code holds it, by its ten bytes.
use Rattle.std.specs.Prelude.{List, ℕ}
use Rattle.block.specs.Block.{two_words}
use Rattle.vectors.specs.declared.Vector.{Vector}

abbrev pub vector_bytes : Vector → List ℕ
vector_bytes v = two_words v.c0 v.d0 v.c1 v.d1
