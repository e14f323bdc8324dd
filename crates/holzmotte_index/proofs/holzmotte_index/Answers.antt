-- `holzmotte_index::holzmotte_index` meets its contract. Assumes nothing.
use mathlib.Core.Path.{sym, ap, ◌∙◌}
use lib.ListN.{length}
use Rattle.index.specs.Answer.{answer_of}
use Rattle.lent_words.specs.Words.{result_of}
use Rattle.holzmotte_index.proofs.Through.{build_told, build_place}
use Rattle.holzmotte_index.proofs.holzmotte_index.Goals as goal

pub refusal-requires : goal.refusal-requires
refusal-requires c = build_place c.args.vectors.now (length c.args.index.now) _ c.in-Err.refused.1 (sym (ap answer_of c.in-Err.is) ∙ c.build.ensures.0)

pub returns-in-Ok : goal.returns-in-Ok
returns-in-Ok c = (ap result_of (build_told c.args.vectors.now (length c.args.index.now) _ (sym (ap answer_of c.in-Ok.is) ∙ c.build.ensures.0)), c.build.ensures.1)

pub returns-in-Err : goal.returns-in-Err
returns-in-Err c = (c.refusal.ensures ∙ ap result_of (build_told c.args.vectors.now (length c.args.index.now) _ (sym (ap answer_of c.in-Err.is) ∙ c.build.ensures.0)), c.build.ensures.1)
