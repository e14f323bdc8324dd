-- `control_bytes::all_low` meets its contract. Assumes nothing.
use mathlib.Core.Path.{ap}
use mathlib.Core.List.{List, []}
use native.Mathlib.Omega.{arith}
use borrow.Author.Tests.{eqb-true}
use Prim.Native.Nat.{ℕ}
use lib.ListN.{get_or}
use Rattle.bits.specs.Bits.{bit, stream_bit}
use Rattle.control_bytes.proofs.Laid.{first, turn, done}
use Rattle.control_bytes.proofs.all_low.Goals as goal

pub loop-group-init : goal.loop-group-init
loop-group-init c = first c.args.bytes.now _

pub loop-group-preserved : goal.loop-group-preserved
loop-group-preserved c =
    let loop = c.loop-group in
    turn c.args.bytes.now loop.over _ c.joined-over.result loop.group-index (omega (arith, c.as_chunks.ensures.front_len))
    (ap (λ (l : List (List ℕ)). get_or l loop.group-index []) c.as_chunks.ensures.front) loop.invariant c.joined-over.ensures

pub returns : goal.returns
unfolding bit stream_bit
returns c =
    let loop = c.loop-group in
    λ t. done loop.over _ _ _ _ _ (eqb-true _ 0 t) c.args.bytes.now (λ n. (c.type_inv.bytes n).fits) c.requires loop.group-index (omega (arith, c.as_chunks.ensures.front_len)) loop.invariant tt
