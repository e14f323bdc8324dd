-- `scrambler::scramble` meets its contract: two strides. Assumes nothing.
use Rattle.scrambler.proofs.Words.{scramble_word, scramble_history}
use Rattle.scrambler.proofs.scramble.Goals as goal

pub returns : goal.returns
returns c = (
  scramble_word c.args.history c.requires c.args.payload c.ranges.payload.fits,
  scramble_history c.args.history c.requires c.args.payload c.ranges.payload.fits,
)
