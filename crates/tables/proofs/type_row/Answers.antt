-- `tables::type_row` meets its contract: the entry is found in its word.
use mathlib.Core.Path.{◌∙◌, ap}
use Prim.Native.Nat.{ℕ, ◌*◌, ◌/◌, ◌%◌, ◌^◌}
use Rattle.tables.proofs.Entries.{word_at}
use Rattle.tables.proofs.type_row.Goals as goal

pub returns : goal.returns
returns c =
    ap (λ (w : ℕ). w / 2 ^ (4 * (c.args.y % 16)) % 16) c.type_word.ensures ∙ word_at c.args.y c.requires
