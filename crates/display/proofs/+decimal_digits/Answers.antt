-- `display::decimal_digits` meets its contract. Assumes nothing.
use Rattle.std.proofs.Common.{arith}
use Rattle.display.proofs.Loops.{split_length, one_length, digit_one, digit_more}
use Rattle.display.proofs.+decimal_digits.Goals as goal

pub bounds-out-at : goal.bounds-out-at
bounds-out-at t c = omega (arith, one_length _ c.if-n-lt10.true)

pub returns-then-n-lt10 : goal.returns-then-n-lt10
returns-then-n-lt10 t c = digit_one _ _ _ _ c.if-n-lt10.true c.digit.ensures c.requires

pub decimal_digits-e-requires : goal.decimal_digits-e-requires
decimal_digits-e-requires t c =
    let l = split_length c.args.n c.ranges.n.fits c.if-n-lt10.false in
    (omega (arith, c.decreases), omega arith)

pub bounds-out-e : goal.bounds-out-e
bounds-out-e t c =
    let l = split_length c.args.n c.ranges.n.fits c.if-n-lt10.false in
    omega (arith, c.decimal_digits-e.ensures.ends, c.decimal_digits-e.auto.out)

pub overflow_add-result-2 : goal.overflow_add-result-2
overflow_add-result-2 t c =
    let l = split_length c.args.n c.ranges.n.fits c.if-n-lt10.false in
    omega (arith, c.well_formed, c.decimal_digits-e.ensures.ends)

pub returns : goal.returns
returns t c = digit_more _ _ _ _ _ _ c.ranges.n.fits c.if-n-lt10.false c.digit-2.ensures c.requires c.decimal_digits-e.ensures
