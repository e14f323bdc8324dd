-- How many of some vectors an index counts.
use Rattle.std.specs.Prelude.{ℕ, List}
use Rattle.bits.specs.Lists.{how_many}
use Rattle.block.specs.Block.{is_error_vector}
use Rattle.vector_tests.specs.Tests.{of_kind_s}
use Rattle.tally.specs.declared.Tally.{Tally}

abbrev pub tally_of : List (List ℕ) → Tally
tally_of vs = record { errors = how_many is_error_vector vs; starts = how_many of_kind_s vs }
