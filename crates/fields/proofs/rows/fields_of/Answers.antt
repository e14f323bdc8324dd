-- `fields::rows::fields_of` meets its contract: each number is compared with its rule.
use mathlib.Core.Path.{ap, sym}
use mathlib.Core.List.{[], ◌∷◌}
use Rattle.fields.specs.Parts.{fields_by}
use Rattle.fields.proofs.Told.{otherwise}
use Rattle.fields.proofs.rows.fields_of.Goals as goal

pub returns-in-0 : goal.returns-in-0
unfolding fields_by
returns-in-0 c = ap fields_by (sym c.in-0.is)

pub returns-in-1 : goal.returns-in-1
unfolding fields_by
returns-in-1 c = ap fields_by (sym c.in-1.is)

pub returns-in-2 : goal.returns-in-2
unfolding fields_by
returns-in-2 c = ap fields_by (sym c.in-2.is)

pub returns-in-3 : goal.returns-in-3
unfolding fields_by
returns-in-3 c = ap fields_by (sym c.in-3.is)

pub returns-in-4 : goal.returns-in-4
unfolding fields_by
returns-in-4 c = ap fields_by (sym c.in-4.is)

pub returns-in-5 : goal.returns-in-5
unfolding fields_by
returns-in-5 c = ap fields_by (sym c.in-5.is)

pub returns-in-6 : goal.returns-in-6
unfolding fields_by
returns-in-6 c = ap fields_by (sym c.in-6.is)

pub returns-in-7 : goal.returns-in-7
unfolding fields_by
returns-in-7 c = ap fields_by (sym c.in-7.is)

pub returns-in-8 : goal.returns-in-8
unfolding fields_by
returns-in-8 c = ap fields_by (sym c.in-8.is)

pub returns-in-9 : goal.returns-in-9
unfolding fields_by
returns-in-9 c = ap fields_by (sym c.in-9.is)

pub returns-in-10 : goal.returns-in-10
unfolding fields_by
returns-in-10 c = ap fields_by (sym c.in-10.is)

pub returns-in-11 : goal.returns-in-11
unfolding fields_by
returns-in-11 c = ap fields_by (sym c.in-11.is)

pub returns-in-12 : goal.returns-in-12
unfolding fields_by
returns-in-12 c = ap fields_by (sym c.in-12.is)

pub returns-in-13 : goal.returns-in-13
unfolding fields_by
returns-in-13 c = ap fields_by (sym c.in-13.is)

pub returns-in-14 : goal.returns-in-14
unfolding fields_by
returns-in-14 c = ap fields_by (sym c.in-14.is)

pub returns-in_default : goal.returns-in_default
unfolding fields_by
returns-in_default c = otherwise (14 ∷ 13 ∷ 12 ∷ 11 ∷ 10 ∷ 9 ∷ 8 ∷ 7 ∷ 6 ∷ 5 ∷ 4 ∷ 3 ∷ 2 ∷ 1 ∷ 0 ∷ []) fields_by 0x2f06050403020100 16 tt c.args.r c.requires c.in_default.in_default-own.rest
