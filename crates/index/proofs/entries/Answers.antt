-- `index::entries` meets its contract. Assumes nothing.
use mathlib.Core.Path.{sym}
use Rattle.index.proofs.Reading.{entry_count_lem}
use Rattle.index.proofs.entries.Goals as goal

pub returns : goal.returns
returns c = sym (entry_count_lem c.args.vectors.now)
