-- The tests of one vector, by its control bytes and lanes. Assumes nothing.
use Prim.Native.Nat.{ℕ}
use mathlib.Core.Path.{◌≡◌, refl, ap, ◌∙◌}
use mathlib.Core.List.{List}
use Rattle.block.specs.Block.{is_s, carrier, carrier_kind, vector_kind, Carrier, block, none}
use Rattle.block.specs.Coded.{coded_of}
use Rattle.block.specs.declared.Coded.{Coded}
use Rattle.block.specs.declared.Edition.TheVariants.{New}
use Rattle.block.specs.declared.Kind.{Kind}
use Rattle.block.specs.declared.Kind.TheVariants.{D, C, S, T, E, LI}
use Rattle.block.specs.contracts.Kind.{the_type}
use denote.Enum.Bare.{sameb}

-- the kind that encoding answers is that of the vector
pub coded_kind : (v : List ℕ) (e : Coded) → e ≡ coded_of (carrier New v) → e.kind ≡ vector_kind New v
unfolding vector_kind
coded_kind v e q = ap (λ (c : Coded). c.kind) q ∙ by (carrier New v)
  where
    by : (c : Carrier) → (coded_of c).kind ≡ carrier_kind c
    by (block k h x) = refl
    by none = refl

-- a kind is S, as the derived equality tests it
pub kind_is_s : (k : Kind) → sameb the_type k S ≡ is_s k
kind_is_s D = refl
kind_is_s C = refl
kind_is_s S = refl
kind_is_s T = refl
kind_is_s E = refl
kind_is_s LI = refl
