-- `fields::field_code` meets its contract: the octet and the slot that the row says.
use mathlib.Core.Path.{◌∙◌, ap}
use Rattle.fields.specs.Parts.{code_as}
use Rattle.fields.proofs.Fields.{code_is}
use Rattle.fields.proofs.field_code.Goals as goal

pub returns : goal.returns
returns c = c.code_of.ensures ∙ ap code_as (code_is c.args.r c.args.i c.requires.0 c.requires.1 c.args.edition c.args.lanes c.fields_of.result c.fields_of.ensures)
