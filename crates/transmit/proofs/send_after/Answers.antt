-- By the law of one vector after another.
use Rattle.transmit.proofs.Steps.{goes_after}
use Rattle.transmit.proofs.send_after.Goals as goal

pub returns : goal.returns
returns c =
    let pick = c.choose-chosen.ensures in
    let out = c.scramble_next-out.ensures in
    rw c.step_of.ensures (goes_after _ _ _ _ c.requires.0 pick out.0 out.1)
