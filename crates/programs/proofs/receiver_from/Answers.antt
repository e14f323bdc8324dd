-- `programs::receiver_from` meets its contract. Assumes nothing.
use Prim.Native.Nat.{ℕ}
use lib.ListN.{length-replicate}
use Rattle.programs.specs.Programs.{receiver_text}
use Rattle.programs.proofs.Reading.{by_reads}
use Rattle.programs.proofs.receiver_from.Goals as goal

pub returns-clause-puts_for_reads : goal.returns-clause-puts_for_reads
returns-clause-puts_for_reads g c =
    by_reads receiver_text 2 49500 _ _ _ _ _ _ (length-replicate {A = ℕ} 49500 0) c.gathered-step.ensures c.receiver_output.ensures.puts_text
