use native.Mathlib.Omega.{arith}
use mathlib.Core.Path.{refl, ap, ◌∙◌}
use Prim.Native.Nat.{ℕ, ◌%◌}
use lib.ListN.{get_or}
use Rattle.block.specs.Types.{types}
use Rattle.receiving.specs.declared.TheConstants.{LOCAL_FAULT}
use Rattle.hunting.specs.Unlocked.{untyped_of}
use Rattle.hunting.proofs.Unlocked.{header_small, hunt_turn, hunt_room}
use Rattle.hunting.proofs.hunt_step.Goals as goal

pub miss-miss-requires : goal.miss-miss-requires
miss-miss-requires c = header_small c.args.line.now c.args.s.pos _ c.one_at-b.ensures.0

pub put_vector-requires : goal.put_vector-requires
put_vector-requires c =
    let args = c.args in
    let pre = c.requires in
    hunt_room args.line.now args.room.now args.p args.s pre.1 pre.2 pre.3 pre.4 pre.5

pub untyped-requires : goal.untyped-requires
untyped-requires c = header_small c.args.line.now c.args.s.pos _ c.one_at-b.ensures.0

pub returns : goal.returns
returns c =
    let args = c.args in
    let pre = c.requires in
    let one_at = c.one_at-b in
    let descramble = c.descramble-plain in
    let type_row = c.type_row-row in
    let miss = c.miss-miss in
    let put_vector = c.put_vector in (
      hunt_turn args.line.now args.room.now args.p args.s pre.1 pre.2 one_at.result.header one_at.result.payload
          one_at.ensures.0 one_at.ensures.1 pre.3 pre.4 pre.5 LOCAL_FAULT refl put_vector.new.room put_vector.ensures
          miss.result c.untyped.result descramble.result.history miss.ensures.0
          (c.untyped.ensures.0 ∙ ap (untyped_of one_at.result.header) (type_row.ensures ∙ ap (λ (x : ℕ). get_or types (x % 256) 0) descramble.ensures.0)) descramble.ensures.1,
      omega (arith, pre.3, miss.ensures.1),
    )
