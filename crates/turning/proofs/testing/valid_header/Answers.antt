-- `turning::testing::valid_header` meets its contract. Assumes nothing.
use mathlib.Core.Path.{refl}
use native.Mathlib.Nat.{div-one}
use Rattle.bits.specs.Bits.{bit}
use Rattle.receiving.specs.Machine.{valid_of}
use Rattle.turning.proofs.testing.valid_header.Goals as goal

pub returns : goal.returns
unfolding valid_of bit
returns c = rw div-one refl
