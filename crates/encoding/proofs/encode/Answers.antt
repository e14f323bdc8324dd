-- `encoding::encode` meets its contract: the quick way, eight low power idles, or the rows.
use mathlib.Core.Path.{◌≡◌}
use native.Mathlib.Omega.{arith}
use Rattle.std.proofs.Common.{rules}
use Rattle.block.specs.declared.Edition.TheVariants.{New}
use Rattle.quick_encoding.proofs.Plain.{low_coded}
use Rattle.encoding.proofs.encode.Goals as goal

pub returns-then-c1-eq15 : goal.returns-then-c1-eq15
returns-then-c1-eq15 c =
    let args = c.args in
    let pre = c.requires in
    let new : args.edition ≡ New = search rules in
    low_coded args.edition new args.c0 args.d0 args.c1 args.d1 pre.0 pre.1 (omega arith) (omega arith) (omega arith)
