-- `index_search::find_error` meets its contract. Assumes nothing.
use Rattle.std.proofs.Common.{sym, ◌∙◌, arith}
use Rattle.std.proofs.lemmas.Result.{err_from_is_err_and}
use Rattle.index.proofs.Reading.{entry_count_lem}
use Rattle.vector_checks.proofs.Laws.{short}
use Rattle.index_search.proofs.Answers.{bad_vectors, bad_index, looked}
use Rattle.index_search.proofs.find_error.Goals as goal

pub overflow_mul-entries : goal.overflow_mul-entries
overflow_mul-entries c = let v = c.args.vectors.now in omega (arith, short v (sym c.in_ok-check_vectors.ensures), entry_count_lem v, c.entries.ensures)

pub returns-then-index-entries : goal.returns-then-index-entries
returns-then-index-entries c =
    bad_index c.args.vectors.now c.args.index.now c.args.n c.in_ok-check_vectors.ensures (λ e. c.if-index-entries.true (omega (arith, e, c.entries.ensures)))

pub find_in-requires : goal.find_in-requires
find_in-requires c = (short c.args.vectors.now (sym c.in_ok-check_vectors.ensures), omega (arith, c.if-index-entries.false, c.entries.ensures))

pub returns-in_err-check_vectors : goal.returns-in_err-check_vectors
returns-in_err-check_vectors c =
    let p = err_from_is_err_and c.from_residual.result c.from_residual.ensures.1 in
    rw (p.1, p.2) (bad_vectors c.args.vectors.now c.args.index.now c.args.n _ c.in_err-check_vectors.ensures)

pub returns : goal.returns
returns c = c.find_in.ensures ∙ looked c.args.vectors.now c.args.index.now c.args.n c.in_ok-check_vectors.ensures (omega (arith, c.if-index-entries.false, c.entries.ensures))
