use mathlib.Core.Path.{sym, ap, subst, subst₂}
use Prim.Native.Nat.{ℕ, ◌*◌, ◌<◌}
use lib.ListN.{length}
use Rattle.receiving.specs.Loop.{Under, Stretches}
use Rattle.receiving.specs.declared.Progress.{Progress}
use Rattle.hunting.proofs.hunt.Goals as goal

pub hunt_blocks-s-requires : goal.hunt_blocks-s-requires
hunt_blocks-s-requires c = (
  c.requires.0,
  c.hunts.ensures c.if-hunts.true,
  subst (Under c.args.line.now c.args.room.now) (sym c.searching.ensures) c.requires.1,
  subst (λ (n : ℕ). n < 8 * length c.args.line.now) (sym (ap (λ (z : Progress). z.pos) c.searching.ensures)) c.requires.2,
)

pub returns-then-hunts : goal.returns-then-hunts
returns-then-hunts c =
    let args = c.args in
    let searching = c.searching in
    let hunt-blocks = c.hunt_blocks-s in
    subst₂ (Stretches args.line.now args.room.now hunt-blocks.new.room) searching.ensures (sym c.found.ensures) hunt-blocks.ensures
