-- The definitions on examples, by computation.
use mathlib.Core.Path.{◌≡◌, refl}
use mathlib.Core.Bool.{false}
use mathlib.Core.List.{flatten}
use lib.ListN.{replicate}
use Rattle.bits.specs.Bits.{bit, number, listed, stream_bit, line_bit, line_bits}
use Rattle.block.specs.declared.Edition.{Edition}
use Rattle.block.specs.declared.Edition.TheVariants.{Old, New}
use Rattle.block.specs.Block.{local_fault_vector, class_of}
use Rattle.lock.specs.Lock.{lock_of, slips_of, counted_of, invalid_of}
use Rattle.lock.specs.Rate.{rate_of, window_of}
use Rattle.bits.specs.Lists.{how_many}
use Rattle.receiving.specs.Machine.{run, feed, filled, tested_of, link_of, valid_of}
use Rattle.receiving.specs.Receive.{judge, last_is, answers, state_of, answer_in, ends, lets_end, counts_of, handed_of, run_of, vectors_of, received_vectors}
use Rattle.receiving.specs.Answer.{summary_of}

-- Document 01's receiver example: nine zero bytes are one block with an invalid header, which slips.
nine_zeros : (ed : Edition) → received_vectors ed (replicate 9 0) ≡ local_fault_vector
unfolding received_vectors vectors_of run_of run feed filled line_bits line_bit listed stream_bit bit number tested_of link_of valid_of answers judge state_of answer_in ends lets_end lock_of slips_of counted_of invalid_of rate_of window_of flatten
nine_zeros Old = refl
nine_zeros New = refl

-- its counts
nine_zeros_counts : (ed : Edition) → summary_of ed (replicate 9 0) ≡ record { counts = record { tested = 1; slips = 1; headers = 1; types = 0; codes = 0; sets = 0 }; locked = false; high = false; vectors = 1; alone = false; handed = record { begun = 0; replaced = 0 } }
unfolding summary_of last_is counts_of handed_of vectors_of run_of run feed filled line_bits line_bit listed stream_bit bit number tested_of link_of valid_of answers judge state_of answer_in ends lets_end lock_of slips_of counted_of invalid_of rate_of window_of how_many class_of
nine_zeros_counts Old = refl
nine_zeros_counts New = refl
