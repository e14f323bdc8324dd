-- The cycle of calls `between`, `inside` meets its contracts. Assumes nothing.
use Rattle.std.proofs.Common.{ap, List, length, arith}
use Rattle.frames.specs.Frames.{Frame}
use Rattle.frame_list.proofs.Listing.{lists_stop, lists_put, lists_on, left_number, left_room}
use Rattle.frame_list.proofs.+between_inside.Goals as goal

pub between-inside-requires : goal.between-inside-requires
between-inside-requires t c =
    let f = c.in-Some.ensures in
    let e = ap (λ (fs : List Frame). length fs) f.rest in
    (omega (arith, f.later, f.within), (f.within, c.requires.1, omega (arith, c.requires.2), f.begins))

pub between-returns-in-None : goal.between-returns-in-None
between-returns-in-None t c = (lists_stop c.args.bytes.now c.args.k c.args.n c.args.list.now c.requires.0 c.in-None.ensures, λ h. h)

pub inside-put_entry-requires : goal.inside-put_entry-requires
inside-put_entry-requires t c = left_room c.args.bytes.now c.args.k c.args.n (length c.args.list.now) c.requires.0 c.requires.3 c.requires.2

pub inside-returns-then-turns-eq0 : goal.inside-returns-then-turns-eq0
inside-returns-then-turns-eq0 t c =
    let args = c.args in
    let pre = c.requires in
    let d = c.read_frame-frame.ensures in (
      lists_put args.bytes.now args.k args.n args.list.now c.put_entry.new.list c.read_frame-frame.result pre.0 pre.3 d
          (left_room args.bytes.now args.k args.n (length args.list.now) pre.0 pre.3 pre.2) c.put_entry.ensures,
      λ h. d.later,
    )

pub inside-between-requires : goal.inside-between-requires
inside-between-requires t c =
    let d = c.read_frame-frame.ensures in
    let n = left_number c.args.bytes.now c.args.k c.read_frame-frame.result c.requires.0 c.requires.3 d in
    (omega (arith, d.later, d.within, c.requires.0), (d.within, c.requires.1, omega (arith, c.requires.2, c.put_entry.auto.list)))

pub inside-returns : goal.inside-returns
inside-returns t c =
    let args = c.args in
    let pre = c.requires in
    let d = c.read_frame-frame.ensures in
    let p = lists_put args.bytes.now args.k args.n args.list.now c.put_entry.new.list c.read_frame-frame.result pre.0 pre.3 d
    (left_room args.bytes.now args.k args.n (length args.list.now) pre.0 pre.3 pre.2) c.put_entry.ensures in (
      lists_on args.bytes.now args.k args.n args.list.now _ c.put_entry.new.list c.between.result c.between.new.list p c.between.ensures.0,
      λ h. omega (arith, d.later, c.between.ensures.0.later),
    )
