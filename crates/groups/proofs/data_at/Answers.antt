-- A vector without control characters is its octets.
use native.Mathlib.Omega.{arith}
use Rattle.groups.proofs.Four.{data_codes}
use Rattle.groups.proofs.data_at.Goals as goal

pub returns : goal.returns
returns c = λ ed. data_codes c.args.bytes.now c.args.at (λ n. omega (arith, c.type_inv.bytes n)) c.requires.0 ed c.octets_at.result c.octets_at.ensures c.requires.1
