-- The counters through C, call after call: what one call leaves is what the next one finds, and two calls in a row add up. Assumes nothing.
use Prim.Native.Nat.{ℕ, ◌^◌, ◌<◌}
use mathlib.Core.Path.{◌≡◌, ap, ap₂, ◌∙◌}
use mathlib.Core.List.{List, ◌++◌}
use native.Mathlib.Omega.{arith}
use lib.ListN.{get_or, drop}
use lib.Seq.{drop_at}
use Rattle.receiving.specs.Parts.{plus, plus_handed}
use Rattle.receiving.specs.declared.Counts.{Counts}
use Rattle.receiving.specs.declared.Handed.{Handed}
use Rattle.counters.specs.Counters.{becomes, updated}
use Rattle.counters.specs.declared.Counters.{Counters}
use Rattle.counters.proofs.Laws.{updated_twice}
use Rattle.lent_words.specs.Words.{word_bytes, word_at}
use Rattle.slices.specs.Slices.{counters_in, counter_words, counters_with}
use Rattle.lent_words.proofs.Laws.{length_words, word_back}

module _ (c : Counters) (n : Counts) (h : Handed) (bytes : List ℕ) where
  -- a counter has 32 bits
  fits : (old added : ℕ) → becomes old added < 2 ^ 32
  unfolding becomes
  fits old added = omega arith

  -- the counters that a call leaves are those that the next one finds
  pub found : counters_in (counters_with (updated c n h) bytes) ≡ updated c n h
  found =
      λ i. record {
        tested = at 0 (omega arith) (fits c.tested n.tested) i;
        slips = at 1 (omega arith) (fits c.slips n.slips) i;
        headers = at 2 (omega arith) (fits c.headers n.headers) i;
        types = at 3 (omega arith) (fits c.types n.types) i;
        codes = at 4 (omega arith) (fits c.codes n.codes) i;
        sets = at 5 (omega arith) (fits c.sets n.sets) i;
        begun = at 6 (omega arith) (fits c.begun h.begun) i;
        replaced = at 7 (omega arith) (fits c.replaced h.replaced) i;
      }
    where
      at : (k : ℕ) → k < 8 → get_or (counter_words (updated c n h)) k 0 < 2 ^ 32
          → word_at 4 (counters_with (updated c n h) bytes) k ≡ get_or (counter_words (updated c n h)) k 0
      at k l b = word_back 4 (counter_words (updated c n h)) (drop 32 bytes) k l b

  -- behind them nothing changes
  behind : drop 32 (counters_with (updated c n h) bytes) ≡ drop 32 bytes
  behind = drop_at (word_bytes 4 (counter_words (updated c n h))) (drop 32 bytes) 32 (length_words 4 (counter_words (updated c n h)))

  -- two calls in a row add up
  pub twice_in_bytes : (m : Counts) (k : Handed)
      → counters_with (updated (counters_in (counters_with (updated c n h) bytes)) m k) (counters_with (updated c n h) bytes)
      ≡ counters_with (updated c (plus n m) (plus_handed h k)) bytes
  twice_in_bytes m k =
      ap₂ (λ (z : Counters) (l : List ℕ). word_bytes 4 (counter_words z) ++ l) (ap (λ (z : Counters). updated z m k) found ∙ updated_twice c n m h k) behind
