-- No control byte is above 15 where none was found.
use mathlib.Core.Path.{refl}
use native.Mathlib.Omega.{arith}
use Rattle.sending.proofs.Low.{low}
use Rattle.sending.proofs.send.Goals as goal

pub send_all-requires : goal.send_all-requires
send_all-requires c = (omega arith, c.if-n-ne0.false, omega arith, low c.args.vectors.now _ c.if-n-ne0.false refl (omega (arith, c.in_default.ensures)))
