-- A fresh receiver over a line of blocks with 64 valid headers first and fewer than 16 invalid ones in all. Assumes nothing.
use mathlib.Core.Path.{◌≡◌, refl, ap, ◌∙◌}
use mathlib.Core.List.{List, [], ◌∷◌, map}
use Prim.Native.Nat.{ℕ, suc, ◌*◌, ◌<◌}
use lib.ListN.{length, length-map}
use Rattle.bits.specs.Bits.{stream_bit, cut}
use Rattle.line.specs.declared.Block.{Block}
use Rattle.line.specs.BlockNumber.{block_number}
use Rattle.block.specs.declared.Edition.{Edition}
use Rattle.diagrams.specs.declared.State.{State}
use Rattle.diagrams.specs.declared.State.TheVariants.{Init}
use Rattle.receiving.specs.Machine.{Tested, Run, run, at, link_fresh}
use Rattle.receiving.specs.Receive.{judge, answers, ends, state_of, counts_of, run_of, vectors_of}
use Rattle.receiving.specs.Answer.{summary_of}
use Rattle.demands.specs.Words.{Unbroken}
use Rattle.demands.proofs.Line.{line_bits_lem, AllFit}
use Rattle.demands.proofs.Runs.{link_after, tested_all, valids, run_words, length_tested, slips_none}
use Rattle.demands.proofs.Lock.{FirstValid, invalids, Locks, lock_by_64}

-- one vector for each tested block
pub length_answers : (s : State) (ts : List Tested) → length (answers s ts) ≡ length ts
unfolding answers judge
length_answers s [] = refl
length_answers s (t ∷ ts) = ap suc (length_answers (state_of s t (ends ts)) ts)

module _ (ed : Edition) (bs : List Block) (groups : ℕ) (fits : AllFit bs) (four : length bs ≡ 4 * groups)
    (first : FirstValid 64 (valids bs)) (few : invalids (valids bs) < 16) where
  -- four blocks in 33 bytes
  abbrev line : List ℕ
  line = cut 8 (stream_bit 66 (map block_number bs)) (33 * groups)

  -- the receiver locks with block 63
  locks : Locks 63 (link_fresh ed) bs
  locks = lock_by_64 ed bs first few

  -- each block is tested at its own place
  pub fresh_run : run_of ed line ≡ record { tested = tested_all (link_fresh ed) bs; end = at (link_after (link_fresh ed) bs) }
  unfolding run_of
  fresh_run =
      ap (run (at (link_fresh ed))) (line_bits_lem (map block_number bs) groups (length-map bs block_number ∙ four))
      ∙ run_words (link_fresh ed) bs fits locks.steady

  -- its vectors are those of these blocks
  pub fresh_vectors : vectors_of ed line ≡ answers Init (tested_all (link_fresh ed) bs)
  unfolding vectors_of
  fresh_vectors = rw fresh_run

  -- as many are tested as there are blocks, with no slip, and the receiver ends locked and not high
  pub fresh_summary : Unbroken (length bs) (summary_of ed line)
  unfolding summary_of counts_of
  fresh_summary =
      record {
        tested = rw (fresh_run, length_tested (link_fresh ed) bs);
        slips = rw (fresh_run, slips_none (link_fresh ed) bs locks.steady);
        locked = ap (λ (r : Run). r.end.link.lock.locked) fresh_run ∙ locks.locked;
        high = ap (λ (r : Run). r.end.link.rate.high) fresh_run ∙ locks.calm;
        vectors = rw (fresh_vectors, length_answers Init (tested_all (link_fresh ed) bs), length_tested (link_fresh ed) bs);
      }
