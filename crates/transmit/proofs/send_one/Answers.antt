-- By the law of one vector.
use Rattle.transmit.proofs.Steps.{goes}
use Rattle.transmit.proofs.send_one.Goals as goal

pub returns : goal.returns
returns c =
    let pick = c.choose-chosen.ensures in
    let out = c.scramble-out.ensures in
    rw c.step_of.ensures (goes _ _ _ _ c.requires.0 pick out.0 out.1)
