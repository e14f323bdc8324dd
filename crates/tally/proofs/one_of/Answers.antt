-- `tally::one_of` meets its contract. Assumes nothing.
use Rattle.std.proofs.Common.{ap, sym, ◌∙◌, arith}
use Rattle.lent_words.specs.Words.{flag_word}
use Rattle.block.specs.Block.{is_error_vector}
use Rattle.vector_tests.specs.Tests.{of_kind_s}
use Rattle.vectors.specs.declared.Vector.{Vector}
use Rattle.tally.proofs.Tallies.{error_only, neither}
use Rattle.tally.proofs.one_of.Goals as goal

pub returns-then-v-eq0 : goal.returns-then-v-eq0
returns-then-v-eq0 c =
    let n = neither c.args.vector.now c.requires.1 c.requires.2 (omega (arith, ap (λ (v : Vector). v.c0) c.vector_of-v.ensures.0, c.if-v-eq0.true)) in
    (c.default.ensures.0 ∙ n.0, c.default.ensures.1 ∙ n.1)

pub returns-then-is_error : goal.returns-then-is_error
returns-then-is_error c = error_only c.args.vector.now (sym c.if-is_error.true ∙ c.is_error.ensures ∙ ap is_error_vector c.vector_of-v.ensures.1)

pub returns : goal.returns
returns c = (
  ap flag_word (sym c.if-is_error.false ∙ c.is_error.ensures ∙ ap is_error_vector c.vector_of-v.ensures.1),
  c.flag.ensures ∙ ap flag_word (c.is_start.ensures ∙ ap of_kind_s c.vector_of-v.ensures.1),
)
