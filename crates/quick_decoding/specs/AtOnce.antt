-- What is promised of a block that is decoded at once.
use Rattle.std.specs.Prelude.{◌≡◌, false, ℕ, Option, Some, None}
use Rattle.block.specs.declared.Edition.{Edition}
use Rattle.block.specs.Block.{is_error, decoded, class_of, kind_in}
use Rattle.quick_decoding.specs.declared.Decoded.{Decoded}
use Rattle.vectors.specs.Vector.{vector_bytes}

-- where it is there: its class and vector, in each edition, and it is not bad
abbrev pub DecodedAtOnce : ℕ → ℕ → Option Decoded → Type 0
DecodedAtOnce h x (Some r) = (ed : Edition) → (r.class ≡ class_of ed h x) × (vector_bytes r.vector ≡ decoded ed h x) × (is_error (kind_in r.class) ≡ false)
DecodedAtOnce h x None = Unit {0}
