-- A reviewer can skip this file: what the look at all eight octets promises.
use Rattle.std.specs.Prelude.{◌≡◌, ℕ, Option, Some, None}
use Rattle.block.specs.declared.Edition.{Edition}
use Rattle.block.specs.declared.Coded.{Coded}
use Rattle.block.specs.Block.{carrier}
use Rattle.block.specs.Coded.{coded_of}
use Rattle.fields.specs.Parts.{spread}

-- a quick answer, where there is one, is the block in both editions
abbrev pub QuicklyCoded : ℕ → ℕ → ℕ → Option Coded → Type 0
QuicklyCoded c0 c1 lanes (Some z) = (ed : Edition) → z ≡ coded_of (carrier ed (spread c0 c1 lanes))
QuicklyCoded c0 c1 lanes None = Unit {0}
