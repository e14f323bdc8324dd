-- What one receiving call handed out, counted again. Assumes nothing.
use Prim.Native.Nat.{ℕ, ◌+◌, ◌/◌, ◌-◌, ◌≤◌}
use mathlib.Core.Path.{◌≡◌, sym, ap, ap₂, ◌∙◌}
use mathlib.Core.Bool.{Bool}
use mathlib.Core.List.{List, ◌++◌}
use native.Mathlib.Omega.{arith}
use lib.ListN.{length, take, length-append}
use Rattle.bits.specs.Lists.{how_many}
use Rattle.refusals.specs.First.{first, by_verdict}
use Rattle.block.specs.declared.Edition.{Edition}
use Rattle.block.specs.Block.{vector_list, is_error_vector}
use Rattle.block.proofs.Vectors.{take_vectors, vectors_in_lem, length_tens}
use Rattle.vector_tests.specs.Tests.{of_kind_s}
use Rattle.receiving.specs.Receive.{vectors_of, received_vectors}
use Rattle.receiving.proofs.Begun.{begun_are_newer, replaced_are_errors}
use Rattle.receiving.proofs.Tens.{vectors_tens}
use Rattle.index.specs.Index.{index_for}
use Rattle.index_count.specs.Counting.{full_count}
use Rattle.index_count.specs.Answer.{CountAnswer, counts, refused, count_checks}
use Rattle.index_count.proofs.Built.{counts_all}
use Rattle.received_counts.specs.Received.{CountsReceived}

-- the vectors handed out are the first of the bytes
full_is : (test : List ℕ → Bool) (ed : Edition) (line behind : List ℕ)
    → full_count test (vector_list (received_vectors ed line ++ behind)) 0 (length (vectors_of ed line)) ≡ how_many test (vectors_of ed line)
unfolding received_vectors
full_is test ed line behind =
    let vs = vectors_of ed line in
    let bytes = received_vectors ed line ++ behind in
    let tens = vectors_tens ed line in
    let l : length vs ≤ length bytes / 10 = omega (arith, length-append (received_vectors ed line) behind, length_tens vs tens) in
    let z : length vs - 0 ≡ length vs = omega arith in
    ap (λ (n : ℕ). how_many test (take n (vector_list bytes))) z
    ∙ ap (how_many test) (take_vectors (length vs) (length bytes / 10) bytes l ∙ vectors_in_lem vs behind tens)

pub counts_received : CountsReceived
counts_received ed line behind =
    let bytes = received_vectors ed line ++ behind in
    counts_all bytes 0 (length (vectors_of ed line))
    ∙ ap (λ (a : CountAnswer). by_verdict (first (count_checks bytes (length (index_for (vector_list bytes))) 0 (length (vectors_of ed line)))) a refused)
    (ap₂ counts (full_is is_error_vector ed line behind ∙ sym (replaced_are_errors ed line)) (full_is of_kind_s ed line behind ∙ sym (begun_are_newer ed line)))
