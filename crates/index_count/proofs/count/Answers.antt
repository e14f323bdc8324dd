-- `index_count::count` meets its contract. Assumes nothing.
use Rattle.std.proofs.Common.{◌/◌, length, sym, ◌∙◌, arith}
use Rattle.std.proofs.lemmas.Result.{err_from_is_err_and}
use Rattle.block.proofs.Vectors.{length_vectors}
use Rattle.index.proofs.Reading.{entry_count_lem}
use Rattle.vector_checks.proofs.Laws.{short, low}
use Rattle.index_count.proofs.Answers.{bad_vectors, after, past, bad_index, counted}
use Rattle.index_count.proofs.count.Goals as goal
use Rattle.index_count.proofs.count.Goals.{then-b-a-via-then-b-a, then-b-a-via-else-b-a+then-vectors-b, then-b-a-via-else-b-a+else-vectors-b+then-index-entries}

pub returns-in_err-check_vectors : goal.returns-in_err-check_vectors
returns-in_err-check_vectors c =
    let p = err_from_is_err_and c.from_residual.result c.from_residual.ensures.1 in
    rw (p.1, p.2) (bad_vectors c.args.vectors.now c.args.index.now c.args.a c.args.b _ c.in_err-check_vectors.ensures)

pub overflow_mul-entries : goal.overflow_mul-entries
overflow_mul-entries c = let v = c.args.vectors.now in omega (arith, short v (sym c.in_ok-check_vectors.ensures), entry_count_lem v, c.entries.ensures)

pub returns-then-b-a : goal.returns-then-b-a
returns-then-b-a c =
    let v = c.args.vectors.now in
    let x = c.args.index.now in
    let n = length_vectors (length v / 10) v in
    elim c.then-b-a.branch [
      | then-b-a-via-then-b-a w ↦ after v x c.args.a c.args.b c.in_ok-check_vectors.ensures w.if-b-a.true
      | then-b-a-via-else-b-a+then-vectors-b w ↦ past v x c.args.a c.args.b c.in_ok-check_vectors.ensures w.if-b-a.false (omega (arith, w.if-vectors-b.true, n))
      | then-b-a-via-else-b-a+else-vectors-b+then-index-entries w ↦
          bad_index v x c.args.a c.args.b c.in_ok-check_vectors.ensures w.if-b-a.false (omega (arith, w.if-vectors-b.false, n))
          (λ e. w.if-index-entries.true (omega (arith, e, w.entries.ensures)))
    ]

pub between-requires : goal.between-requires
between-requires c =
    let v = c.args.vectors.now in
    let s = sym c.in_ok-check_vectors.ensures in
    (short v s, low v s, omega (arith, c.if-index-entries.false, c.entries.ensures), c.if-b-a.false, c.if-vectors-b.false)

pub returns : goal.returns
returns c =
    let v = c.args.vectors.now in
    c.between.ensures
    ∙ counted v c.args.index.now c.args.a c.args.b c.in_ok-check_vectors.ensures c.if-b-a.false (omega (arith, c.if-vectors-b.false, length_vectors (length v / 10) v)) (omega (arith, c.if-index-entries.false, c.entries.ensures))
