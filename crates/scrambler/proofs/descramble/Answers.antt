-- `scrambler::descramble` meets its contract. Assumes nothing.
use Rattle.scrambler.proofs.Words.{descramble_word, descramble_history}
use Rattle.scrambler.proofs.descramble.Goals as goal

pub returns : goal.returns
returns c = (
  descramble_word c.args.history c.requires c.args.word c.ranges.word.fits,
  descramble_history c.args.history c.requires c.args.word c.ranges.word.fits,
)
