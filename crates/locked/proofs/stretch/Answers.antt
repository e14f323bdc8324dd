use Rattle.receiving.proofs.Stretching.{stretch_first}
use Rattle.locked.proofs.stretch.Goals as goal

pub blocks_in_lock-requires : goal.blocks_in_lock-requires
blocks_in_lock-requires c = (c.requires.0, c.requires.1, c.in_lock.ensures c.if-in_lock.true, c.requires.2)

pub returns : goal.returns
returns c = stretch_first c.args.line.now c.args.room.now c.args.p c.requires.1 c.requires.2
