-- Any two answers, and contents of lent memory, that meet a public function's promise are equal.
use mathlib.Core.Path.{◌≡◌, ◌∙◌, sym}
use mathlib.Core.List.{List}
use Prim.Native.Nat.{ℕ, ◌^◌, ◌<◌}
use Rattle.block.specs.declared.Edition.{Edition}
use Rattle.block.specs.declared.Kind.{Kind}
use Rattle.block.specs.declared.Class.{Class}
use Rattle.block.specs.Block.{decoded, good, class_of, kind_in}
use Rattle.quick_decoding.specs.declared.Decoded.{Decoded}
use Rattle.vectors.specs.Vector.{vector_bytes}
use Rattle.vectors.proofs.Unique.{vector_same}

pub decode_unique : (ed : Edition) (h x : ℕ) (r r' : Decoded) → r.vector.d0 < 2 ^ 32 → r.vector.d1 < 2 ^ 32 → r'.vector.d0 < 2 ^ 32 → r'.vector.d1 < 2 ^ 32
    → (r.class ≡ class_of ed h x) × (vector_bytes r.vector ≡ decoded ed h x) → (r'.class ≡ class_of ed h x) × (vector_bytes r'.vector ≡ decoded ed h x) → r ≡ r'
decode_unique ed h x r r' a b c d p q = λ i. record { class = class i; vector = vector i }
  where
    class : r.class ≡ r'.class
    class = p.0 ∙ sym q.0

    vector : r.vector ≡ r'.vector
    vector = vector_same r.vector r'.vector a b c d (p.1 ∙ sym q.1)

pub decode_block_unique : (ed : Edition) (h x : ℕ) (c c' : Class) (out out' : List ℕ) → (c ≡ class_of ed h x) × (out ≡ decoded ed h x) → (c' ≡ class_of ed h x) × (out' ≡ decoded ed h x) → (c ≡ c') × (out ≡ out')
decode_block_unique ed h x c c' out out' p q = (p.0 ∙ sym q.0, p.1 ∙ sym q.1)

pub kind_in_unique : (c : Class) (k k' : Kind) → k ≡ kind_in c → k' ≡ kind_in c → k ≡ k'
kind_in_unique c k k' p q = p ∙ sym q

pub classify_unique : (ed : Edition) (h x : ℕ) (c c' : Class) → c ≡ class_of ed h x → c' ≡ class_of ed h x → c ≡ c'
classify_unique ed h x c c' p q = p ∙ sym q

-- `good_class`
pub good_class_unique : (k : Kind) (r r' : Class) → r ≡ good k → r' ≡ good k → r ≡ r'
good_class_unique k r r' p q = p ∙ sym q
