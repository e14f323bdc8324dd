-- `display::number_line` meets its contract. Assumes nothing.
use native.Mathlib.Omega.{arith}
use lib.ListN.{length-append}
use Rattle.putting.proofs.Laws.{puts_on}
use Rattle.display.specs.Display.{decimal}
use Rattle.display.proofs.Laws.{decimal_length}
use Rattle.display.proofs.number_line.Goals as goal

pub decimal_digits-e-requires : goal.decimal_digits-e-requires
decimal_digits-e-requires c = omega (arith, c.text-d.ensures.ends, c.text-d.auto.room, decimal_length 20 c.args.n)

pub text-requires : goal.text-requires
text-requires c =
    let args = c.args in
    let text = c.text-d in
    let decimal-digits = c.decimal_digits-e in
    omega (arith, text.ensures.ends, text.auto.room, decimal-digits.ensures.ends, decimal-digits.auto.out, decimal_length 20 args.n)

pub returns-clause-puts_text : goal.returns-clause-puts_text
returns-clause-puts_text c =
    let l = decimal_length 20 c.args.n in
    puts_on _ _ _ _ _ _ _ _ (puts_on _ _ _ _ _ _ _ _ c.text-d.ensures c.decimal_digits-e.ensures (omega (arith, l)))
    c.text.ensures (omega (arith, l, length-append c.args.name.now (decimal c.args.n)))

pub returns-clause-upper_bound : goal.returns-clause-upper_bound
returns-clause-upper_bound c =
    omega (arith, decimal_length 20 c.args.n, c.text-d.ensures.ends, c.decimal_digits-e.ensures.ends, c.text.ensures.ends)
