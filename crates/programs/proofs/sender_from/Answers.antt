-- `programs::sender_from` meets its contract. Assumes nothing.
use Prim.Native.Nat.{ℕ}
use lib.ListN.{length-replicate}
use Rattle.programs.specs.Programs.{sender_text}
use Rattle.programs.proofs.Reading.{by_reads}
use Rattle.programs.proofs.sender_from.Goals as goal

pub returns-clause-puts_for_reads : goal.returns-clause-puts_for_reads
returns-clause-puts_for_reads g c =
    by_reads sender_text 1 60000 _ _ _ _ _ _ (length-replicate {A = ℕ} 60000 0) c.gathered-step.ensures c.sender_output.ensures.puts_text
