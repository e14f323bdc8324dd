-- `carrying::fill` meets its contract. The line's last bits wait with those carried, or the block is filled. Assumes nothing.
use mathlib.Core.Path.{refl}
use Prim.Native.Nat.{◌+◌, ◌-◌, ◌*◌}
use Rattle.std.specs.Prelude.{Some}
use native.Mathlib.Omega.{arith}
use lib.ListN.{length}
use Rattle.carrying.proofs.Laws.{empty, takes_rest, takes_last}
use Rattle.carrying.proofs.fill.Goals as goal

pub returns-then-left-lacks : goal.returns-then-left-lacks
returns-then-left-lacks c =
    let args = c.args in
    let block = c.join-block in
    takes_rest args.line.now args.pos args.c c.requires.0 _ c.requires.2 (length args.line.now * 8 - args.pos) (omega arith) (omega arith) block.result
    block.ensures.0 block.ensures.1 refl refl refl (omega arith) (omega arith)

pub returns : goal.returns
returns c =
    let args = c.args in
    let block = c.join-block in
    let lacks = 66 - args.c.count in
    takes_last args.line.now args.pos args.c c.requires.0 (record { block = Some block.result; carried = c.default.result; next = args.pos + lacks }) c.requires.2 lacks (omega arith) (omega arith)
    block.result block.ensures.0 block.ensures.1 refl refl (empty c.default.ensures) (omega arith) (omega arith)
