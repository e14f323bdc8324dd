-- Four steps, each of a vector that is encoded as e.
use Rattle.groups.proofs.Four.{four}
use Rattle.groups.proofs.send_alike.Goals as goal

pub returns : goal.returns
returns c =
    λ ed bytes at i. four ed bytes at c.args.s _ _ _ _ _ c.group_of.ensures
    (c.send_one-first.ensures.steps ed _ i.first) (c.send_after-second.ensures.steps ed _ i.second)
    (c.send_after-third.ensures.steps ed _ i.third) (c.send_after-fourth.ensures.steps ed _ i.fourth)
