-- `line::store` meets its contract. Assumes nothing.
use mathlib.Core.Path.{◌∙◌}
use Rattle.bits.specs.Bits.{bit, cut}
use Rattle.line.proofs.Laws.{to_le, part_put}
use Rattle.line.proofs.store.Goals as goal

pub returns : goal.returns
returns c = part_put c.args.room.now _ (cut 8 (bit c.args.w) 8) c.args.at 8 (c.copy_from_slice.ensures.after ∙ c.to_le_bytes.ensures ∙ to_le c.args.w)
