-- `characters::control` meets its contract where the constants hold the code.
use Rattle.characters.proofs.Codes.{control_found}
use Rattle.characters.proofs.control.Goals as goal

pub returns-then-v-i : goal.returns-then-v-i
returns-then-v-i c = control_found c.args.v c.requires c.args.edition c.if-v-i.true
