-- `kept_state::kept_of` meets its contract. Assumes nothing.
use mathlib.Core.Path.{ap, ◌∙◌}
use native.Mathlib.Omega.{arith}
use Rattle.kept_state.specs.Meaning.{held_kind_number}
use Rattle.kept_state.proofs.Coding.{kept_is}
use Rattle.kept_state.proofs.kept_of.Goals as goal

pub returns : goal.returns
returns c =
    kept_is c.args.have c.args.h _ _ _ _ _ c.if-not-have.false (c.kind_number.ensures ∙ ap held_kind_number c.kind_in.ensures)
    c.from.ensures c.from-2.ensures (omega arith) c.from-3.ensures c.from-4.ensures (omega arith)
