-- `slices::store_counters` meets its contract, two at a time. Assumes nothing.
use mathlib.Core.Path.{◌∙◌}
use lib.ListN.{drop}
use Rattle.slices.proofs.Laws.{counters_put}
use Rattle.slices.proofs.store_counters.Goals as goal

pub returns : goal.returns
returns c =
    let args = c.args in
    let pair = c.pair in
    let pair2 = c.pair-2 in
    let pair3 = c.pair-3 in
    let pair4 = c.pair-4 in
    let put-words = c.put_words in
    put-words.ensures ∙ counters_put args.c _ _ _ _ (drop 32 args.bytes.now) pair.ensures pair2.ensures pair3.ensures pair4.ensures
