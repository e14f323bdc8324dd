-- `index::build` meets its contract. Assumes nothing.
use Rattle.std.proofs.Common.{sym, ◌∙◌, arith}
use Rattle.std.proofs.lemmas.Result.{err_from_is_err_and}
use Rattle.vector_checks.proofs.Laws.{short, low}
use Rattle.index.proofs.Answers.{bad_vectors, bad_index, done}
use Rattle.index.proofs.Reading.{entry_count_lem}
use Rattle.index.proofs.build.Goals as goal

pub overflow_mul-entries : goal.overflow_mul-entries
overflow_mul-entries c = omega (arith, short c.args.vectors.now (sym c.in_ok-check_vectors.ensures), entry_count_lem c.args.vectors.now, c.entries.ensures)

pub returns-then-index-entries : goal.returns-then-index-entries
returns-then-index-entries c =
    bad_index c.args.vectors.now c.args.index.now c.in_ok-check_vectors.ensures (λ e. c.if-index-entries.true (omega (arith, e, c.entries.ensures)))

pub fill-requires : goal.fill-requires
fill-requires c =
    let v = c.args.vectors.now in
    let a = sym c.in_ok-check_vectors.ensures in
    (short v a, low v a, omega (arith, c.if-index-entries.false, c.entries.ensures))

pub returns-in_err-check_vectors : goal.returns-in_err-check_vectors
returns-in_err-check_vectors c =
    let p = err_from_is_err_and c.from_residual.result c.from_residual.ensures.1 in
    rw (p.1, p.2) (bad_vectors c.args.vectors.now c.args.index.now _ c.in_err-check_vectors.ensures)

pub returns : goal.returns
returns c =
    let d = done c.args.vectors.now c.args.index.now c.in_ok-check_vectors.ensures (omega (arith, c.if-index-entries.false, c.entries.ensures)) in
    (d.0, c.fill.ensures ∙ d.1)
