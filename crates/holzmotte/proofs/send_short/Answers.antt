-- `holzmotte::send_short` meets its contract: what sending into no room is refused for, or else 4. Assumes nothing.
use mathlib.Core.Path.{sym, ap, ◌∙◌}
use Rattle.sending.specs.Answer.{answer_of}
use Rattle.holzmotte.proofs.Sends.{short_answer, small, or_four_is}
use Rattle.holzmotte.proofs.send_short.Goals as goal

pub or_four-requires : goal.or_four-requires
or_four-requires c w is = small c.args.edition c.args.vectors.now c.args.start 0 _ _ (sym (ap answer_of is) ∙ c.send.ensures.0)

pub returns : goal.returns
returns c room summary l =
    c.or_four.ensures ∙ or_four_is c.send.result ∙ short_answer c.args.edition c.args.vectors.now c.args.start room summary _ c.send.ensures.0 l
