-- `scrambler::mirrored` meets its contract: six changes of places. Assumes nothing.
use Rattle.scrambler.proofs.Mirrors.{mirror_word}
use Rattle.scrambler.proofs.mirrored.Goals as goal

pub returns : goal.returns
returns c = mirror_word c.args.state c.ranges.state.fits
