-- Four steps, each of a vector whose two control bytes are low.
use native.Mathlib.Omega.{arith}
use Rattle.groups.proofs.Four.{low_pairs, four}
use Rattle.groups.proofs.send_each.Goals as goal

pub vector_at-requires : goal.vector_at-requires
vector_at-requires c = let w = (low_pairs c.args.bytes.now c.args.at c.requires.4 c.requires.3).first in (omega arith, w.0, w.1)

pub vector_at-requires-2 : goal.vector_at-requires-2
vector_at-requires-2 c = let w = (low_pairs c.args.bytes.now c.args.at c.requires.4 c.requires.3).second in (omega arith, w.0, w.1)

pub vector_at-requires-3 : goal.vector_at-requires-3
vector_at-requires-3 c = let w = (low_pairs c.args.bytes.now c.args.at c.requires.4 c.requires.3).third in (omega arith, w.0, w.1)

pub vector_at-requires-4 : goal.vector_at-requires-4
vector_at-requires-4 c = let w = (low_pairs c.args.bytes.now c.args.at c.requires.4 c.requires.3).fourth in (omega arith, w.0, w.1)

pub returns : goal.returns
returns c =
    let ed = c.args.edition in
    four ed c.args.bytes.now c.args.at c.args.s _ _ _ _ _ c.group_of.ensures
    (c.send_one-first.ensures.steps ed _ c.vector_at.ensures) (c.send_one-second.ensures.steps ed _ c.vector_at-2.ensures)
    (c.send_one-third.ensures.steps ed _ c.vector_at-3.ensures) (c.send_one-fourth.ensures.steps ed _ c.vector_at-4.ensures)
