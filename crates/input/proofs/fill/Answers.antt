-- The loop of `input::fill` keeps what it has filled. Assumes nothing.
use Rattle.std.proofs.Common.{rules}
use Rattle.input.proofs.Filled.{given_behind}
use Rattle.input.proofs.fill.Goals as goal

pub loop-done-preserved : goal.loop-done-preserved
loop-done-preserved g c = (
  search rules,
  search rules,
  given_behind _ _ _ _ _ _ c.loop-done.buf c.read.new.buf c.loop-done.invariant.1 c.in_ok-n.ensures.bound.0 c.loop-done.invariant.2 c.in_ok-n.ensures.bytes.0,
)
