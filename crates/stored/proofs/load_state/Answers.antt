-- `stored::load_state` meets its contract. The loop's invariant: the words so far are those of the bytes. Assumes nothing.
use mathlib.Core.Path.{◌∙◌}
use native.Mathlib.Omega.{arith}
use Rattle.stored.proofs.Laws.{loaded, taken_more, taken_all}
use Rattle.stored.proofs.load_state.Goals as goal

pub loop-i-preserved : goal.loop-i-preserved
loop-i-preserved c =
    let loop = c.loop-i in
    taken_more c.args.bytes.now loop.word-items loop.i c.load.result (omega arith) (loaded c.args.bytes.now loop.i c.load.result c.load.ensures) loop.invariant

pub returns : goal.returns
returns c = c.state_of.ensures ∙ taken_all c.args.bytes.now c.loop-i.word-items c.loop-i.i (omega arith) c.loop-i.invariant
