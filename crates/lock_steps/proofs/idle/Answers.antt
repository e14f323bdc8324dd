use Rattle.lock_steps.proofs.InLock.{idle_answer}
use mathlib.Core.Path.{refl}
use Rattle.lock_steps.proofs.idle.Goals as goal

pub returns : goal.returns
returns c = λ ed. (idle_answer ed 0x1e refl).1
