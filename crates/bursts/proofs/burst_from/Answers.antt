-- `bursts::burst_from` meets its contract. One more part of the line. Assumes nothing.
use Rattle.bursts.proofs.Going.{short, written_fits, next_fits, burst_is}
use Rattle.bursts.proofs.burst_from.Goals as goal

pub receive_more-p-requires : goal.receive_more-p-requires
receive_more-p-requires c =
    let args = c.args in
    let pre = c.requires in (
      short args.s args.line.now args.room.now pre.passes,
      pre.means.range,
      pre.means.sound,
      written_fits args.s args.line.now
          args.room.now pre.passes args.start pre.means,
    )

pub next_state-next-requires : goal.next_state-next-requires
next_state-next-requires c =
    let args = c.args in
    let pre = c.requires in
    let receive-more = c.receive_more-p in
    next_fits args.s args.line.now args.room.now pre.passes args.start pre.means receive-more.new.room receive-more.result
    receive-more.ensures

pub shape_of-room : goal.shape_of-room
shape_of-room c = c.receive_more-p.ensures.len

pub returns : goal.returns
returns c =
    let args = c.args in
    let pre = c.requires in
    let receive-more = c.receive_more-p in
    let next-state = c.next_state-next in
    burst_is args.s args.line.now args.room.now pre.passes args.start pre.means receive-more.new.room receive-more.result
    receive-more.ensures next-state.result c.accepted.result next-state.ensures c.accepted.ensures.0 c.accepted.ensures.1
    c.accepted.ensures.2
