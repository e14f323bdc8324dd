use mathlib.Core.Path.{refl}
use borrow.Author.Rules.{rules}
use Rattle.decoding.proofs.Rows.{low_answer}
use Rattle.lock_steps.proofs.at_once.Goals as goal

pub returns-then-eq : goal.returns-then-eq
returns-then-eq c =
    let a = low_answer c.args.edition c.args.header c.args.payload (search rules) c.if-header-eq1.true c.if-payload-eq871499720017774110.true in
    (a.0, a.1, refl)
