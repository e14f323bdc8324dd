-- `kept_state::masked` meets its contract. Assumes nothing.
use mathlib.Core.Path.{refl}
use Rattle.kept_state.proofs.Coding.{masked_few, masked_many}
use Rattle.kept_state.proofs.masked.Goals as goal

pub returns-then-c-lt2 : goal.returns-then-c-lt2
returns-then-c-lt2 c = masked_few c.args.c c.if-c-lt2.true _ refl

pub returns : goal.returns
returns c = masked_many c.args.c c.if-c-lt2.false c.requires _ refl
