-- `frame_list::list` meets its contract. Assumes nothing.
use Rattle.std.proofs.Common.{◌*◌, length, sym, ap, ◌∙◌, arith}
use Rattle.std.proofs.lemmas.Result.{err_from_is_err_and}
use borrow.Author.Tests.{ltb-false}
use Rattle.vector_checks.proofs.Laws.{short}
use Rattle.frame_list.proofs.Answers.{counted_small, counted_room, bad_vectors, small_list, list_done}
use Rattle.frame_list.specs.Answer.{frames_number, frames_listed}
use Rattle.frame_list.proofs.list.Goals as goal

pub overflow_mul-frames : goal.overflow_mul-frames
overflow_mul-frames c = omega (arith, short c.args.vectors.now (sym c.in_ok-check_vectors.ensures), c.counted-frames.ensures.1)

pub returns-then-list-frames : goal.returns-then-list-frames
returns-then-list-frames c =
    let n = counted_small c.args.vectors.now (length c.args.list.now) c.counted-frames.result c.counted-frames.ensures.0 c.if-list-frames.true in
    small_list c.args.vectors.now c.args.list.now c.in_ok-check_vectors.ensures c.counted-frames.result n.0 n.1

pub list_all-requires : goal.list_all-requires
list_all-requires c =
    let r = counted_room c.args.vectors.now (length c.args.list.now) c.counted-frames.result c.counted-frames.ensures.0 c.if-list-frames.false in
    (short c.args.vectors.now (sym c.in_ok-check_vectors.ensures), ltb-false (length c.args.list.now) (12 * frames_number c.args.vectors.now) r)

pub returns-in_err-check_vectors : goal.returns-in_err-check_vectors
returns-in_err-check_vectors c =
    let p = err_from_is_err_and c.from_residual.result c.from_residual.ensures.1 in
    rw (p.1, p.2) (bad_vectors c.args.vectors.now c.args.list.now _ c.in_err-check_vectors.ensures)

pub returns : goal.returns
returns c =
    let r = counted_room c.args.vectors.now (length c.args.list.now) c.counted-frames.result c.counted-frames.ensures.0 c.if-list-frames.false in
    let d = list_done c.args.vectors.now c.args.list.now c.in_ok-check_vectors.ensures r in
    (ap frames_listed c.list_all.ensures.0 ∙ d.0, c.list_all.ensures.1 ∙ d.1)
