use Prim.Native.Nat.{◌+◌, ◌*◌}
use mathlib.Core.Path.{ap, ◌∙◌}
use Rattle.refusals.specs.Number.{number_of}
use Rattle.refusals.specs.declared.Refused.{Refused}
use Rattle.holzmotte_records.proofs.Through.{writes}
use Rattle.holzmotte_records.proofs.holzmotte_write_record.Goals as goal

pub returns-in-Ok : goal.returns-in-Ok
returns-in-Ok c = (writes _ _ _ _ _ c.in-Ok.ensures.0, c.in-Ok.ensures.1)

pub returns-in-Err : goal.returns-in-Err
returns-in-Err c = (
  c.refusal.ensures ∙ ap (λ (r : Refused). number_of r.0 + 256 * r.1) c.into.ensures ∙ writes _ _ _ _ _ c.in-Err.ensures.0,
  c.in-Err.ensures.1,
)
