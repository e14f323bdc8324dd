-- `display::hex_line` meets its contract. Assumes nothing.
use native.Mathlib.Omega.{arith}
use Rattle.putting.proofs.Laws.{puts_on}
use Rattle.display.proofs.Laws.{hex_length}
use Rattle.display.proofs.hex_line.Goals as goal

pub text-requires : goal.text-requires
text-requires c = omega (arith, c.hex_digits-e.ensures.ends, c.hex_digits-e.auto.out, hex_length c.args.v.now)

pub returns : goal.returns
returns c = puts_on _ _ _ _ _ _ _ _ c.hex_digits-e.ensures c.text.ensures (omega (arith, hex_length c.args.v.now))
