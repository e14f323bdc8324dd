-- `line::store_half` meets its contract. Assumes nothing.
use mathlib.Core.Path.{ap, ◌∙◌}
use lib.ListN.{take}
use Rattle.bits.specs.Bits.{bit, cut}
use Rattle.line.proofs.Laws.{to_le_half, part_put}
use Rattle.line.proofs.store_half.Goals as goal

pub returns : goal.returns
returns c =
    part_put c.args.room.now _ (cut 8 (bit c.args.w) 4) c.args.at 4
    (c.copy_from_slice.ensures.after ∙ ap (take 4) c.to_le_bytes.ensures ∙ to_le_half c.args.w)
