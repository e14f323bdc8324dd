-- What 8/13 of document 02 counts: "how many error vectors and vectors of kind S".
use Rattle.std.specs.Prelude.{ℕ, Bool, List, get_or}
use Rattle.block.specs.declared.Edition.TheVariants.{New}
use Rattle.block.specs.Block.{is_s, vector_kind}
use Rattle.encoding.specs.Parts.{lanes_at}
use Rattle.vectors.specs.declared.Vector.{Vector}

-- Kind S is that of the newer edition, which has every vector that is of kind S in the older one (docs/DECISIONS.md, 'Readings of document 02').
abbrev pub of_kind_s : List ℕ → Bool
of_kind_s v = is_s (vector_kind New v)

-- ten bytes as a vector
abbrev pub read_vector : List ℕ → Vector
read_vector v = record { c0 = get_or v 0 0; c1 = get_or v 5 0; d0 = lanes_at v 1; d1 = lanes_at v 6 }
