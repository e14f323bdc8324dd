-- The octets of control characters, code by code.
use mathlib.Core.Path.{◌≡◌, subst}
use mathlib.Core.Bool.{Bool, not, ◌||◌}
use Prim.Native.Nat.{ℕ, ◌*◌, ◌/◌, ◌%◌, ◌^◌, ◌<◌}
use lib.Dec.{T, eqb, eqb→eq}
use borrow.Author.Tests.{eq-eqb}
use Rattle.block.specs.declared.Edition.{Edition}
use Rattle.block.specs.declared.Edition.TheVariants.{Old, New}
use Rattle.block.specs.Block.{Control, octet_of}
use Rattle.bits.proofs.Tests.{or_right, each, at}

-- the code and the octet in byte v / 16 of the constants
abbrev pub code_by : ℕ → ℕ
code_by v = 0x7866554b332d1e00 / 2 ^ (8 * (v / 16)) % 256

abbrev pub octet_for : ℕ → ℕ
octet_for v = 0xf7dcbc7c3c1cfe07 / 2 ^ (8 * (v / 16)) % 256

-- at each of the 128 codes: the octet is that of the constants where the code is theirs
found : Edition → ℕ → Bool
found ed v = not (eqb v (code_by v)) || eqb (octet_for v) (octet_of ed Control v)

all_found : (ed : Edition) → T (each (found ed) 0 128)
unfolding found
all_found Old = tt
all_found New = tt

pub control_found : (v : ℕ) → v < 128 → (ed : Edition) → v ≡ code_by v → octet_for v ≡ octet_of ed Control v
unfolding found
control_found v l ed e =
    eqb→eq (octet_for v) (octet_of ed Control v)
    (or_right (not (eqb v (code_by v))) (eqb (octet_for v) (octet_of ed Control v)) (at (found ed) 128 (all_found ed) v l) (λ t. subst (λ (b : Bool). T (not b)) (eq-eqb v (code_by v) e) t))
