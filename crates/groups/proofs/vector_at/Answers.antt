-- The words that it reads are the vector's.
use mathlib.Core.Path.{ap, ◌∙◌}
use native.Mathlib.Omega.{arith}
use Rattle.block.specs.Block.{carrier}
use Rattle.block.specs.Coded.{coded_of}
use Rattle.encoding.proofs.Vectors.{vector_read}
use Rattle.groups.proofs.vector_at.Goals as goal

pub returns-then-c1-eq0 : goal.returns-then-c1-eq0
returns-then-c1-eq0 c = c.data_at.ensures c.args.edition

pub returns-else-c0-eq0 : goal.returns-else-c0-eq0
returns-else-c0-eq0 c =
    let a = c.args in
    c.encode.ensures
    ∙ ap coded_of (ap (carrier a.edition)
    (vector_read a.bytes.now a.at _ _ (λ n. omega (arith, c.type_inv.bytes n)) c.requires.0 c.lanes_at.ensures c.lanes_at-else-c0-eq0.ensures))
