-- `holzmotte_bursts::holzmotte_burst` meets its contract. A state too short; or the call itself. Assumes nothing.
use mathlib.Core.Path.{refl}
use mathlib.Core.Bool.{false}
use Rattle.holzmotte_bursts.proofs.Slices.{state_short, call_fits, call_leaves}
use Rattle.holzmotte_bursts.proofs.holzmotte_burst.Goals as goal

pub returns-then-state-lt232 : goal.returns-then-state-lt232
returns-then-state-lt232 c =
    let a = c.args in
    state_short false a.state.now a.line.now a.vectors.now a.summary.now a.counters.now c.if-state-lt232.true _ c.clear.ensures

pub answered-requires : goal.answered-requires
answered-requires c =
    let a = c.args in (
      c.if-state-lt232.false,
      call_fits false a.state.now a.line.now a.vectors.now a.summary.now a.counters.now c.load_state-s.result c.load_state-s.ensures
          c.if-state-lt232.false _ refl c.lent-n.result c.lent-n.ensures.0 c.burst-r.result _ c.burst-r.ensures,
    )

pub returns : goal.returns
returns c =
    let a = c.args in
    call_leaves false a.state.now a.line.now a.vectors.now a.summary.now a.counters.now c.load_state-s.result c.load_state-s.ensures
    c.if-state-lt232.false _ refl c.lent-n.result c.lent-n.ensures.0 c.burst-r.result _ c.burst-r.ensures c.answered.result _ _ _ c.answered.ensures
