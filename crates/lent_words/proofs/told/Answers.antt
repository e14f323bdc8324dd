-- `lent_words::told` meets its contract. Assumes nothing.
use native.Mathlib.Omega.{arith}
use Rattle.lent_words.proofs.Laws.{told_short, told_long}
use Rattle.lent_words.proofs.told.Goals as goal

pub returns-then-summary-words : goal.returns-then-summary-words
returns-then-summary-words c =
    let t = told_short c.args.words.now c.args.summary.now c.if-summary-words.true in (omega (arith, t.0), t.1)

pub returns : goal.returns
returns c = told_long c.args.words.now c.args.summary.now _ c.if-summary-words.false c.put_words.ensures
