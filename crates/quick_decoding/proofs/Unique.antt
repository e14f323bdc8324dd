-- Any two answers that meet a public function's promise are equal.
use mathlib.Core.Path.{◌≡◌, ◌∙◌, sym}
use Prim.Native.Nat.{ℕ, ◌^◌, ◌<◌}
use Rattle.std.specs.Prelude.{Some}
use Rattle.block.specs.declared.Edition.TheVariants.{Old}
use Rattle.quick_decoding.specs.declared.Decoded.{Decoded}
use Rattle.quick_decoding.specs.AtOnce.{DecodedAtOnce}
use Rattle.vectors.proofs.Unique.{vector_same}

-- `quick`: any two answers that are there
pub quick_unique : (h x : ℕ) (r r' : Decoded) → r.vector.d0 < 2 ^ 32 → r.vector.d1 < 2 ^ 32 → r'.vector.d0 < 2 ^ 32 → r'.vector.d1 < 2 ^ 32
    → DecodedAtOnce h x (Some r) → DecodedAtOnce h x (Some r') → r ≡ r'
quick_unique h x r r' a b c d p q = λ i. record { class = class i; vector = vector i }
  where
    class : r.class ≡ r'.class
    class = (p Old).0 ∙ sym (q Old).0

    vector : r.vector ≡ r'.vector
    vector = vector_same r.vector r'.vector a b c d ((p Old).1 ∙ sym (q Old).1)
