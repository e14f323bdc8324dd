-- `scrambler::scramble_next` meets its contract: the polynomial squared. Assumes nothing.
use Rattle.scrambler.proofs.Next.{next_word, next_history}
use Rattle.scrambler.proofs.scramble_next.Goals as goal

pub returns : goal.returns
returns c = (
  next_word c.args.history c.requires.0 c.args.before c.ranges.before.fits c.args.payload c.ranges.payload.fits c.args.sent c.requires.1,
  next_history c.args.history c.requires.0 c.args.before c.ranges.before.fits c.args.payload c.ranges.payload.fits c.args.sent c.requires.1,
)
