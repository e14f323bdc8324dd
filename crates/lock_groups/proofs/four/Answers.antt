use mathlib.Core.Path.{◌∙◌}
use Prim.Native.Nat.{◌*◌}
use Rattle.lock_steps.specs.InLock.{ran_of}
use Rattle.lock_groups.specs.FourInLock.{AllIdle}
use Rattle.lock_groups.proofs.FourInLock.{stretch_valid, stretch_digits, of_idles, comes_first, comes_second, comes_third, comes_fourth, steps_four, idle_second, idle_third, idle_fourth}
use Rattle.lock_groups.proofs.four.Goals as goal

pub stretch_step-a-requires : goal.stretch_step-a-requires
stretch_step-a-requires g c =
    let pre = c.requires in
    let args = c.args in (
      pre.0,
      comes_first args.line.now args.room.now (ran_of args.p args.s) args.f g.row.HEADER (85 * g.row.HEADER) (stretch_valid g.row.HEADER pre.5) (stretch_digits g.row.HEADER pre.5)
          pre.1.under pre.1.lock pre.1.here pre.2 pre.3 pre.1.more,
      pre.4,
      of_idles (λ (x : AllIdle args.s.history args.f). x.a) pre.5,
    )

pub stretch_step-b-requires : goal.stretch_step-b-requires
stretch_step-b-requires g c =
    let pre = c.requires in
    let args = c.args in
    let a = c.stretch_step-a in (
      pre.0,
      comes_second args.line.now args.room.now (ran_of args.p args.s) args.f g.row.HEADER (85 * g.row.HEADER) (stretch_valid g.row.HEADER pre.5) (stretch_digits g.row.HEADER pre.5)
          pre.1.under pre.1.lock pre.1.here pre.2 pre.3 pre.1.more
          a.new.room (ran_of args.p a.result) a.ensures.0,
      a.ensures.1,
      of_idles
          (λ x. idle_second args.line.now args.room.now a.new.room args.room.now args.room.now args.f
          (ran_of args.p args.s) (ran_of args.p a.result) (ran_of args.p args.s) (ran_of args.p args.s) x a.ensures.0)
          pre.5,
    )

pub stretch_step-c-requires : goal.stretch_step-c-requires
stretch_step-c-requires g c =
    let pre = c.requires in
    let args = c.args in
    let a = c.stretch_step-a in
    let b = c.stretch_step-b in (
      pre.0,
      comes_third args.line.now args.room.now (ran_of args.p args.s) args.f g.row.HEADER (85 * g.row.HEADER) (stretch_valid g.row.HEADER pre.5) (stretch_digits g.row.HEADER pre.5)
          pre.1.under pre.1.lock pre.1.here pre.2 pre.3 pre.1.more
          a.new.room (ran_of args.p a.result) a.ensures.0 b.new.room (ran_of args.p b.result) b.ensures.0,
      b.ensures.1,
      of_idles
          (λ x. idle_third args.line.now args.room.now a.new.room b.new.room args.room.now args.f
          (ran_of args.p args.s) (ran_of args.p a.result) (ran_of args.p b.result) (ran_of args.p args.s) x a.ensures.0 b.ensures.0)
          pre.5,
    )

pub stretch_step-requires : goal.stretch_step-requires
stretch_step-requires g c =
    let pre = c.requires in
    let args = c.args in
    let a = c.stretch_step-a in
    let b = c.stretch_step-b in
    let d = c.stretch_step-c in (
      pre.0,
      comes_fourth args.line.now args.room.now (ran_of args.p args.s) args.f g.row.HEADER (85 * g.row.HEADER) (stretch_valid g.row.HEADER pre.5) (stretch_digits g.row.HEADER pre.5)
          pre.1.under pre.1.lock pre.1.here pre.2 pre.3 pre.1.more
          a.new.room (ran_of args.p a.result) a.ensures.0 b.new.room (ran_of args.p b.result) b.ensures.0
          d.new.room (ran_of args.p d.result) d.ensures.0,
      d.ensures.1,
      of_idles
          (λ x. idle_fourth args.line.now args.room.now a.new.room b.new.room d.new.room args.f
          (ran_of args.p args.s) (ran_of args.p a.result) (ran_of args.p b.result) (ran_of args.p d.result) x a.ensures.0 b.ensures.0 d.ensures.0)
          pre.5,
    )

pub returns : goal.returns
returns g c =
    let args = c.args in
    let a = c.stretch_step-a in
    let b = c.stretch_step-b in
    let d = c.stretch_step-c in
    let e = c.stretch_step in
    steps_four args.line.now args.room.now a.new.room b.new.room d.new.room e.new.room
    args.f.a args.f.b args.f.c args.f.d (ran_of args.p args.s) (ran_of args.p a.result) (ran_of args.p b.result)
    (ran_of args.p d.result) (ran_of args.p e.result) a.ensures.0 b.ensures.0 d.ensures.0 e.ensures.0
