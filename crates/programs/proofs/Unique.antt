-- Each promise of this crate that speaks of lent bytes has one answer, and one content of the output. What is left open are the reads
-- that were made: they are the operating system's. By the reads all is settled.
use Prim.Native.Nat.{ℕ}
use mathlib.Core.Path.{◌≡◌, subst}
use mathlib.Core.List.{List, []}
use Rattle.putting.specs.Overlaid.{PutsText}
use Rattle.putting.proofs.Unique.{puts_unique}
use Rattle.records.specs.Record.{body_limit}
use Rattle.gather.specs.Gather.{Gathered, more, RecordRead}
use Rattle.gather.specs.File.{gathered_after}
use Rattle.gather.specs.declared.Step.{Step}
use Rattle.gather.specs.declared.Stop.{Stop}
use Rattle.std.specs.Prelude.{Result}
use Rattle.programs.specs.Programs.{sender_output, receiver_output, gathered_of, PutsForReads}

module _ (entry : List ℕ) (r r' : ℕ) (exit exit' : List ℕ) where
  pub sender_output_unique : (step : Result Step Stop) (vectors : List ℕ)
      → PutsText 0 (sender_output (gathered_of step vectors)) entry r exit → PutsText 0 (sender_output (gathered_of step vectors)) entry r' exit' → (r ≡ r') × (exit ≡ exit')
  sender_output_unique step vectors = puts_unique 0 (sender_output (gathered_of step vectors)) entry r r' exit exit'

  pub receiver_output_unique : (step : Result Step Stop) (line : List ℕ)
      → PutsText 0 (receiver_output (gathered_of step line)) entry r exit → PutsText 0 (receiver_output (gathered_of step line)) entry r' exit' → (r ≡ r') × (exit ≡ exit')
  receiver_output_unique step line = puts_unique 0 (receiver_output (gathered_of step line)) entry r r' exit exit'

  pub from_unique : (kind most : ℕ) (output : Gathered → List ℕ) (p : PutsForReads kind most output entry r exit) (q : PutsForReads kind most output entry r' exit') → p.reads ≡ q.reads → (r ≡ r') × (exit ≡ exit')
  from_unique kind most output p q e =
      puts_unique 0 (output (gathered_after body_limit kind most q.reads (more []))) entry r r' exit exit'
      (subst (λ (rs : List RecordRead). PutsText 0 (output (gathered_after body_limit kind most rs (more []))) entry r exit) e p.written) q.written
