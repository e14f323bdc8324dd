-- `reception::receive_all` meets its contract: the loop, and the block held at its end. Assumes nothing.
use mathlib.Core.Path.{◌∙◌}
use native.Mathlib.Omega.{arith}
use Rattle.receiving.proofs.Counted.{handed_wide}
use Rattle.reception.proofs.Closing.{written_fits, last_fits, room_is, summary_is}
use Rattle.reception.proofs.receive_all.Goals as goal

pub receive_more-p-requires : goal.receive_more-p-requires
receive_more-p-requires c =
    let args = c.args in
    let fresh = c.fresh in
    (c.requires.0, fresh.ensures.range, fresh.ensures.sound, written_fits args.edition args.line.now args.room.now fresh.result fresh.ensures c.requires.1)

pub receive_last-last-requires : goal.receive_last-last-requires
receive_last-last-requires c =
    let args = c.args in
    let fresh = c.fresh in
    let more = c.receive_more-p in (
      last_fits args.edition args.line.now args.room.now fresh.result fresh.ensures c.requires.1
          more.new.room more.result more.ensures _,
      handed_wide more.result.handed _ 6600000 more.ensures.few (omega (arith, c.requires.0)),
    )

pub shape_of-room : goal.shape_of-room
shape_of-room c = c.receive_last-last.auto.room ∙ c.receive_more-p.ensures.len

pub returns : goal.returns
returns c =
    let args-2 = c.args in
    let pre = c.requires in
    let fresh-2 = c.fresh in
    let receive-more = c.receive_more-p in
    let receive-last = c.receive_last-last in
    let args = args-2 in
    let fresh = fresh-2 in
    let more = receive-more in
    let last = receive-last in (
      summary_is args.edition args.line.now args.room.now fresh.result fresh.ensures pre.1 more.new.room more.result more.ensures
          last.result.alone last.result.handed last.ensures.2 last.ensures.1,
      room_is args.edition args.line.now args.room.now fresh.result fresh.ensures pre.1 more.new.room more.result more.ensures
          last.new.room last.ensures.0,
    )
