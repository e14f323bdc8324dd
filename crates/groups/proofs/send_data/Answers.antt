-- Four steps, each of a vector of data.
use Rattle.groups.proofs.Four.{four}
use Rattle.groups.proofs.send_data.Goals as goal

pub returns : goal.returns
returns c =
    λ ed. four ed c.args.bytes.now c.args.at c.args.s _ _ _ _ _ c.group_of.ensures
    (c.send_one-first.ensures.steps ed _ (c.data_at.ensures ed)) (c.send_after-second.ensures.steps ed _ (c.data_at-2.ensures ed))
    (c.send_after-third.ensures.steps ed _ (c.data_at-3.ensures ed)) (c.send_after-fourth.ensures.steps ed _ (c.data_at-4.ensures ed))
