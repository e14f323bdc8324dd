-- Demand 3 of a line that arrives in bursts (document 02, 2/13): "read over the joined line".
use Rattle.std.specs.Prelude.{ℕ, ◌≡◌}
use mathlib.Core.List.{List, flatten}
use Rattle.block.specs.Block.{edition_of}
use Rattle.transmit.specs.Send.{blocks_for, sent_line}
use Rattle.receiving.specs.Receive.{vectors_of}
use Rattle.receiving.specs.declared.Summary.{Summary}
use Rattle.bursts.specs.Joined.{InBursts}
use Rattle.demands.specs.Words.{SendAccepts}
use Rattle.damage.specs.Damage.{damaged, Flips}
use Rattle.damage.specs.Demand3.{Survived}

-- the bytes that the calls gave are those of vectors of which the demand holds
abbrev pub Demand3InBursts : (edition most : ℕ) → Type 0
Demand3InBursts edition most =
    (bytes : List ℕ) (start room : ℕ) → SendAccepts edition bytes start room
    → (flips : ℕ → ℕ) → Flips most (sent_line (edition_of edition) bytes start) flips
    → (joined : List ℕ) (last : Summary) → InBursts edition (damaged (sent_line (edition_of edition) bytes start) flips) joined last
    → let vectors = vectors_of (edition_of edition) (damaged (sent_line (edition_of edition) bytes start) flips) in
    (joined ≡ flatten vectors) × Survived (edition_of edition) flips (blocks_for (edition_of edition) bytes) vectors
