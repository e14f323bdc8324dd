-- Demand 2 of a line that arrives in bursts (document 02, 2/13): "read over the joined line", of the line that was sent for a list.
use Rattle.std.specs.Prelude.{ℕ, ◌≡◌, length, drop}
use mathlib.Core.List.{List, ◌++◌, flatten}
use Rattle.block.specs.Block.{edition_of, vector_list}
use Rattle.transmit.specs.Send.{sent_line}
use Rattle.receiving.specs.declared.Summary.{Summary}
use Rattle.bursts.specs.Joined.{InBursts}
use Rattle.demands.specs.Words.{SendAccepts, Unbroken}
use Rattle.demands.specs.Demand2.{Returnable, faults}

abbrev pub Demand2InBursts : Type 0
Demand2InBursts =
    (edition : ℕ) (bytes : List ℕ) (start room : ℕ) → SendAccepts edition bytes start room → Returnable (edition_of edition) (vector_list bytes)
    → (joined : List ℕ) (last : Summary) → InBursts edition (sent_line (edition_of edition) bytes start) joined last
    → (joined ≡ flatten faults ++ drop 630 bytes) × Unbroken (length (vector_list bytes)) last
