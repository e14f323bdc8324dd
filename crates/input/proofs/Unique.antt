-- What the promise of `gathered` settles. Which reads were made it leaves open: they are the operating system's. By the reads the outcome is
-- settled, and the store byte for byte.
use Prim.Native.Nat.{ℕ}
use mathlib.Core.Path.{◌≡◌, sym, ap, ◌∙◌}
use mathlib.Core.List.{List, []}
use lib.ListN.{length}
use Rattle.putting.specs.Overlaid.{overlaid}
use Rattle.records.specs.Record.{body_limit}
use Rattle.gather.specs.Gather.{RecordRead, more, bytes_in, turn_in}
use Rattle.gather.specs.File.{gathered_after}
use Rattle.gather.specs.declared.Step.{Step}
use Rattle.gather.specs.declared.Stop.{Stop}
use Rattle.std.specs.Prelude.{Result}
use Rattle.gather.proofs.Unique.{turn_injective}
use Rattle.input.specs.Read.{Gathers}

pub same_reads : (kind : ℕ) (entry : List ℕ) (a b : Result Step Stop) (exit exit' : List ℕ) (p : Gathers kind entry a exit) (q : Gathers kind entry b exit') → p.reads ≡ q.reads → (a ≡ b) × (exit ≡ exit')
same_reads kind entry a b exit exit' p q same =
    let g = ap (λ (rs : List RecordRead). gathered_after body_limit kind (length entry) rs (more [])) same in
    (turn_injective a b (p.shows.0 ∙ ap turn_in g ∙ sym q.shows.0), p.shows.1 ∙ ap (λ g. overlaid 0 (bytes_in g) entry) g ∙ sym q.shows.1)
