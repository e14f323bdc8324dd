-- The loop's invariant: after g groups their line is at the start of the room.
use native.Mathlib.Omega.{arith}
use Rattle.sending.proofs.Whole.{first, few, small, turn}
use Rattle.sending.proofs.send_groups.Goals as goal

pub loop-g-init : goal.loop-g-init
loop-g-init c = first c.args.edition c.args.s c.args.bytes.now c.args.room.now

pub send_four-four-requires : goal.send_four-four-requires
send_four-four-requires c =
    let a = c.args in
    let l = c.loop-g in
    let p = c.requires in
    (omega arith, small a.edition a.s a.bytes.now a.room.now l.room l.next l.g l.invariant p.3, omega (arith, few a.edition a.s a.bytes.now a.room.now l.room l.next l.g l.invariant), omega arith, p.5)

pub loop-g-preserved : goal.loop-g-preserved
loop-g-preserved c =
    let a = c.args in
    let l = c.loop-g in
    turn a.edition a.s a.bytes.now a.room.now l.room l.next l.g l.invariant _ _ (omega arith) c.send_four-four.ensures c.put_group.ensures
