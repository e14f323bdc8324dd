-- `holzmotte_index::holzmotte_find_error` meets its contract. Assumes nothing.
use mathlib.Core.Path.{sym, ap, ◌∙◌}
use Rattle.index_search.specs.Answer.{answer_of}
use Rattle.holzmotte_index.proofs.Through.{find_place, found_one, find_refused}
use Rattle.holzmotte_index.proofs.holzmotte_find_error.Goals as goal

pub refusal-requires : goal.refusal-requires
refusal-requires c = find_place c.args.vectors.now c.args.index.now c.args.n _ c.in-Err.refused.1 (sym (ap answer_of c.in-Err.is) ∙ c.find_error.ensures)

pub returns-in-Ok : goal.returns-in-Ok
returns-in-Ok c =
    found_one c.args.vectors.now c.args.index.now c.args.n c.args.summary.now _ _ c.in-Ok.place.vector c.in-Ok.place.read
    (sym (ap answer_of c.in-Ok.is) ∙ c.find_error.ensures) c.told.ensures.0 c.told.ensures.1

pub returns-in-Err : goal.returns-in-Err
returns-in-Err c =
    find_refused c.args.vectors.now c.args.index.now c.args.n c.args.summary.now _ _ _ c.in-Err.refused.1
    (sym (ap answer_of c.in-Err.is) ∙ c.find_error.ensures) c.refusal.ensures c.told-in-Err.ensures.1
