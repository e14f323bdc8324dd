-- `index_search::nth_error` meets its contract. Assumes nothing.
use Rattle.std.proofs.Common.{◌≡◌}
use Rattle.std.specs.Slice.Iter.{chunks_exact_rest, chunks_exact_size}
use Rattle.index_search.proofs.Nth.{Looking}
use Rattle.index_search.proofs.nth_error.Given as goal

abbrev pub invariant-loop-i : goal.invariant-loop-i
invariant-loop-i l = record {
  can_next : (goal.iterator-loop-i).can_next l.i-iterator;
  is_finite : (goal.iterator-loop-i).is_finite l.i-iterator;
  ten : chunks_exact_size l.i-iterator.iter ≡ 10;
  looking : Looking l.vectors (chunks_exact_rest l.i-iterator.iter) l.n l.left l.i-iterator.count;
}
