-- Document 02, 8/13 and 3/13 together: over what one receiving call handed out, vectors replaced and frames begun are the counts over the whole.
use Rattle.std.specs.Prelude.{ℕ, ◌≡◌, List, ◌++◌, length}
use Rattle.refusals.specs.First.{first, by_verdict}
use Rattle.block.specs.declared.Edition.{Edition}
use Rattle.block.specs.Block.{vector_list}
use Rattle.receiving.specs.Receive.{vectors_of, received_vectors}
use Rattle.receiving.specs.Answer.{summary_of}
use Rattle.index.specs.Index.{index_for}
use Rattle.index_count.specs.Answer.{counts, refused, count_checks, count_answer}

-- In either edition, whatever stands behind them (where they do not come in fours): with the index of all that, from 0 up to but not their number.
abbrev pub CountsReceived : Type 0
CountsReceived =
    (ed : Edition) (line behind : List ℕ)
    → let bytes = received_vectors ed line ++ behind in
    let index = index_for (vector_list bytes) in
    count_answer bytes index 0 (length (vectors_of ed line))
    ≡ by_verdict (first (count_checks bytes (length index) 0 (length (vectors_of ed line))))
    (counts (summary_of ed line).handed.replaced (summary_of ed line).handed.begun)
    refused
