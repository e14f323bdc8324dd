-- `vector_tests::is_start` meets its contract. Assumes nothing.
use Rattle.std.proofs.Common.{ap, ◌∙◌, arith}
use Rattle.block.specs.Block.{is_s}
use Rattle.vectors.specs.Vector.{vector_bytes}
use Rattle.vector_tests.proofs.Starts.{no_start_lem}
use Rattle.vector_tests.proofs.Tests.{coded_kind, kind_is_s}
use Rattle.vector_tests.proofs.is_start.Goals as goal

pub returns-then-v-eq0 : goal.returns-then-v-eq0
returns-then-v-eq0 c = no_start_lem (vector_bytes c.args.v) (omega (arith, c.requires.0)) (omega (arith, c.requires.1)) (λ e. omega (arith, e.0, c.if-v-eq0.true))

pub returns-then-v-gt1 : goal.returns-then-v-gt1
returns-then-v-gt1 c = no_start_lem (vector_bytes c.args.v) (omega (arith, c.requires.0)) (omega (arith, c.requires.1)) (λ e. omega (arith, e.1, c.if-v-gt1.true))

pub returns : goal.returns
returns c = c.eq.ensures ∙ kind_is_s c.encode.result.kind ∙ ap is_s (coded_kind (vector_bytes c.args.v) c.encode.result c.encode.ensures)
