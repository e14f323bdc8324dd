-- The block of a vector that is to be sent, by the definitions of one block.
use Rattle.block.specs.declared.Kind.TheVariants.{E}
use Rattle.block.specs.declared.Coded.{Coded}
use Rattle.block.specs.Block.{Carrier, block, none, error_payload}

-- a vector that a sender encodes: the block that carries it; where none does, kind E and the block that is sent in state E
abbrev pub coded_of : Carrier → Coded
coded_of (block k h x) = record { kind = k; header = h; payload = x }
coded_of none = record { kind = E; header = 1; payload = error_payload }
