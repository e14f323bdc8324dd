-- `index::put_entry` meets its contract. Assumes nothing.
use Prim.Native.Nat.{◌*◌}
use native.Mathlib.Omega.{arith}
use Rattle.index.proofs.Filling.{put_two}
use Rattle.index.proofs.put_entry.Goals as goal

pub returns : goal.returns
returns c =
    put_two (8 * c.args.k) c.args.before.errors c.args.before.starts c.args.index.now c.store_half.new.room c.store_half-2.new.room (omega (arith, c.requires)) c.store_half.ensures c.store_half-2.ensures
