-- Document 02, 6/13, as its law speaks of it: an accepted Terminate.
use Rattle.std.specs.Prelude.{Bool, ◌&&◌}
use Rattle.block.specs.Block.{is_t, kind_in}
use Rattle.receiving.specs.Receive.{Judged, decodes}

-- a block of kind T that is answered as decoded
abbrev pub accepted_terminate : Judged → Bool
accepted_terminate j = is_t (kind_in j.block.class) && decodes j.state
