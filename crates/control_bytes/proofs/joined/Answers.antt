-- `control_bytes::joined` meets its contract. Assumes nothing.
use Rattle.control_bytes.proofs.Laid.{join}
use Rattle.control_bytes.proofs.joined.Goals as goal

pub returns : goal.returns
returns c =
    join c.args.group.now c.args.over _ _ _ _ _ c.load.ensures c.load-2.ensures c.load-3.ensures c.load-4.ensures c.load-5.ensures
