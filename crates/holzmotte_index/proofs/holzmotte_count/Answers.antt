-- `holzmotte_index::holzmotte_count` meets its contract. Assumes nothing.
use mathlib.Core.Path.{sym, ap, ◌∙◌}
use Rattle.index_count.specs.Answer.{answer_of}
use Rattle.holzmotte_index.proofs.Through.{count_place, counted, count_refused}
use Rattle.holzmotte_index.proofs.holzmotte_count.Goals as goal

pub refusal-requires : goal.refusal-requires
refusal-requires c = count_place c.args.vectors.now c.args.index.now c.args.a c.args.b _ c.in-Err.refused.1 (sym (ap answer_of c.in-Err.is) ∙ c.count.ensures)

pub returns-in-Ok : goal.returns-in-Ok
returns-in-Ok c =
    counted c.args.vectors.now c.args.index.now c.args.a c.args.b c.args.summary.now _ _ c.in-Ok.tally.errors c.in-Ok.tally.starts
    (sym (ap answer_of c.in-Ok.is) ∙ c.count.ensures) c.told.ensures.0 c.told.ensures.1

pub returns-in-Err : goal.returns-in-Err
returns-in-Err c =
    count_refused c.args.vectors.now c.args.index.now c.args.a c.args.b c.args.summary.now _ _ _ c.in-Err.refused.1
    (sym (ap answer_of c.in-Err.is) ∙ c.count.ensures) c.refusal.ensures c.told-in-Err.ensures.1
