-- `carrying::take_at` meets its contract. A skipped bit, a whole block, or the bits that the carried one lacks. Assumes nothing.
use mathlib.Core.Path.{refl}
use Prim.Native.Nat.{◌+◌}
use Rattle.std.specs.Prelude.{Some, None}
use Rattle.line.specs.declared.Block.{Block}
use native.Mathlib.Omega.{arith}
use Rattle.carrying.proofs.Laws.{empty, takes_skip, takes_whole}
use Rattle.carrying.proofs.take_at.Goals as goal

pub returns-then-skip : goal.returns-then-skip
returns-then-skip c =
    let args = c.args in
    rw c.if-skip.true
    (takes_skip args.line.now args.pos args.c c.requires.0 (record { block = None; carried = c.default.result; next = args.pos + 1 }) refl (empty c.default.ensures) refl)

pub returns-then-pos-line : goal.returns-then-pos-line
returns-then-pos-line c =
    let args = c.args in
    let block : Block = record { header = c.header_at.result; payload = c.bits_at.result } in
    let carried = c.default-then-pos-line in
    rw c.if-skip.false
    (takes_whole args.line.now args.pos args.c c.requires.0 (record { block = Some block; carried = carried.result; next = args.pos + 66 }) c.if-c-eq0.true (omega arith)
    block refl (empty carried.ensures) refl c.header_at.ensures c.bits_at.ensures)

pub returns : goal.returns
returns c = rw c.if-skip.false c.fill.ensures
