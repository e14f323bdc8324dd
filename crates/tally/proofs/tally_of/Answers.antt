-- `tally::tally_of` meets its contract. Assumes nothing.
use Rattle.std.proofs.Common.{ℕ, ◌+◌, ◌*◌, ◌-◌, ◌≡◌, arith}
use Rattle.tally.proofs.Tallies.{tallied_first, next_controls, tallied_next, tallied_few}
use Rattle.tally.proofs.tally_of.Goals as goal

pub loop-i-init : goal.loop-i-init
loop-i-init c = tallied_first c.args.vectors.now c.default-tally.result c.default-tally.ensures.0 c.default-tally.ensures.1

pub one_of-one-requires : goal.one_of-one-requires
one_of-one-requires c = next_controls c.args.vectors.now c.loop-i.i _ (omega arith) c.requires (omega (arith, c.loop-i-test.true))

pub overflow_add-tally : goal.overflow_add-tally
overflow_add-tally c =
    omega (arith, (tallied_few c.args.vectors.now c.loop-i.i _ (omega arith) c.loop-i.tally c.one_of-one.result c.loop-i.invariant c.one_of-one.ensures.0 c.one_of-one.ensures.1).0, c.loop-i-test.true)

pub overflow_add-tally-in-loop-i : goal.overflow_add-tally-in-loop-i
overflow_add-tally-in-loop-i c =
    omega (arith, (tallied_few c.args.vectors.now c.loop-i.i _ (omega arith) c.loop-i.tally c.one_of-one.result c.loop-i.invariant c.one_of-one.ensures.0 c.one_of-one.ensures.1).1, c.loop-i-test.true)

pub loop-i-preserved : goal.loop-i-preserved
loop-i-preserved c = tallied_next c.args.vectors.now c.loop-i.i _ (omega arith) c.loop-i.tally c.one_of-one.result c.loop-i.invariant c.one_of-one.ensures.0 c.one_of-one.ensures.1
