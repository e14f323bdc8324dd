-- `lent_words::put_words` meets its contract, word by word. Assumes nothing.
use native.Mathlib.Omega.{arith}
use Rattle.lent_words.proofs.Laws.{put_first, put_next, put_done}
use Rattle.lent_words.proofs.put_words.Goals as goal

pub loop-i-init : goal.loop-i-init
loop-i-init c = put_first _ _ c.requires

pub store-requires : goal.store-requires
store-requires c = omega (arith, c.loop-i.invariant.same)

pub loop-i-preserved : goal.loop-i-preserved
loop-i-preserved c =
    let pre = c.requires in
    let loop = c.loop-i in
    let loop-test = c.loop-i-test in
    let store = c.store in
    put_next _ _ pre _ _ _ loop-test.true store.ensures store.auto.room loop.invariant

pub shape_of-summary : goal.shape_of-summary
shape_of-summary c = c.loop-i.invariant.same

pub returns : goal.returns
returns c = put_done _ _ c.requires _ _ c.loop-i-test.false c.loop-i.invariant
