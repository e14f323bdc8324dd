-- `holzmotte::receive_short` meets its contract: what receiving into no room is refused for, or else 4. Assumes nothing.
use mathlib.Core.Path.{sym, ap, ◌∙◌}
use Rattle.receiving.specs.Answer.{answer_of}
use Rattle.holzmotte.proofs.Receives.{short_answer, small, or_four_is}
use Rattle.holzmotte.proofs.receive_short.Goals as goal

pub or_four-requires : goal.or_four-requires
or_four-requires c w is = small c.args.edition c.args.line.now 0 _ _ (sym (ap answer_of is) ∙ c.receive.ensures.0)

pub returns : goal.returns
returns c room summary counters l =
    c.or_four.ensures ∙ or_four_is c.receive.result ∙ short_answer c.args.edition c.args.line.now room summary counters _ c.receive.ensures.0 l
