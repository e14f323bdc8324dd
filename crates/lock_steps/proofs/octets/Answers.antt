use mathlib.Core.Path.{refl}
use Rattle.decoding.proofs.Rows.{data_answer}
use Rattle.lock_steps.proofs.octets.Goals as goal

pub returns : goal.returns
returns c = λ ed. (data_answer ed 2 c.args.x refl).1
