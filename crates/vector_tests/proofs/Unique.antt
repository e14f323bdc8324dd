-- Any two answers that meet the promise are equal.
use Prim.Native.Nat.{ℕ}
use mathlib.Core.Path.{◌≡◌, sym, ◌∙◌}
use mathlib.Core.Bool.{Bool}
use mathlib.Core.List.{List}
use Rattle.block.specs.Block.{is_error_vector}
use Rattle.vectors.specs.Vector.{vector_bytes}
use Rattle.vectors.specs.declared.Vector.{Vector}
use Rattle.vector_tests.specs.Tests.{read_vector, of_kind_s}

pub vector_of_unique : (bytes : List ℕ) (r r' : Vector) → (r ≡ read_vector bytes) × (vector_bytes r ≡ bytes) → (r' ≡ read_vector bytes) × (vector_bytes r' ≡ bytes) → r ≡ r'
vector_of_unique bytes r r' p q = p.0 ∙ sym q.0

pub is_error_unique : (v : Vector) (r r' : Bool) → r ≡ is_error_vector (vector_bytes v) → r' ≡ is_error_vector (vector_bytes v) → r ≡ r'
is_error_unique v r r' p q = p ∙ sym q

pub is_start_unique : (v : Vector) (r r' : Bool) → r ≡ of_kind_s (vector_bytes v) → r' ≡ of_kind_s (vector_bytes v) → r ≡ r'
is_start_unique v r r' p q = p ∙ sym q
