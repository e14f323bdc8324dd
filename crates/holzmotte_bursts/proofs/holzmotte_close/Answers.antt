-- `holzmotte_bursts::holzmotte_close` meets its contract. A state too short; or the call itself. Assumes nothing.
use mathlib.Core.Path.{refl}
use mathlib.Core.Bool.{true}
use mathlib.Core.List.{[]}
use Rattle.holzmotte_bursts.proofs.Slices.{state_short, call_fits, call_leaves}
use Rattle.holzmotte_bursts.proofs.holzmotte_close.Goals as goal

pub returns-then-state-lt232 : goal.returns-then-state-lt232
returns-then-state-lt232 c =
    let a = c.args in
    state_short true a.state.now [] a.vectors.now a.summary.now a.counters.now c.if-state-lt232.true _ c.clear.ensures

pub answered-requires : goal.answered-requires
answered-requires c =
    let a = c.args in (
      c.if-state-lt232.false,
      call_fits true a.state.now [] a.vectors.now a.summary.now a.counters.now c.load_state-s.result c.load_state-s.ensures
          c.if-state-lt232.false _ refl c.lent-n.result c.lent-n.ensures.0 c.close-r.result _ c.close-r.ensures,
    )

pub returns : goal.returns
returns c =
    let a = c.args in
    call_leaves true a.state.now [] a.vectors.now a.summary.now a.counters.now c.load_state-s.result c.load_state-s.ensures
    c.if-state-lt232.false _ refl c.lent-n.result c.lent-n.ensures.0 c.close-r.result _ c.close-r.ensures c.answered.result _ _ _ c.answered.ensures
