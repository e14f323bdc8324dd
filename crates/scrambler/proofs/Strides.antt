-- Why the scrambler's first stride is 39 bits: so many can be sent at once, and no more. Assumes nothing.
use native.Mathlib.Omega.{arith}
use Rattle.register.specs.Register.{Stride}
use Rattle.register.proofs.Strides as register

-- 39 bits at once, from any history
pub stride_39 : Stride 57 39 39
stride_39 = register.stride 57 39 (omega arith) (omega arith) 39 (omega arith)

-- 40 not
pub no_stride_40 : Stride 57 39 40 → ⊥
no_stride_40 s = omega (arith, register.stride_longest 57 39 (omega arith) (omega arith) 40 s)
