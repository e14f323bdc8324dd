-- `control_bytes::first_high` meets its contract. Assumes nothing.
use native.Mathlib.Omega.{arith}
use Rattle.control_bytes.proofs.Scan.{all_low, found, not_found}
use Rattle.control_bytes.proofs.first_high.Goals as goal

pub returns-then-all_low : goal.returns-then-all_low
returns-then-all_low c = all_low c.args.bytes.now c.requires (c.all_low.ensures c.if-all_low.true)

pub returns-in_err-word : goal.returns-in_err-word
returns-in_err-word c = rw c.from_residual.ensures (not_found c.args.bytes.now c.requires c.in_err-word.ensures)

pub overflow_mul-result : goal.overflow_mul-result
overflow_mul-result c = record { fits = omega (arith, (found c.args.bytes.now c.requires _ c.in_ok-word.ensures).1, c.well_formed) }

pub returns : goal.returns
returns c = found c.args.bytes.now c.requires _ c.in_ok-word.ensures
