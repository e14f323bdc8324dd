-- `tables::type_word` meets its contract: each word is compared with its rule.
use mathlib.Core.Path.{ap, sym}
use Rattle.tables.specs.Tables.{type_word}
use Rattle.tables.proofs.type_word.Goals as goal

pub returns-in-0 : goal.returns-in-0
unfolding type_word
returns-in-0 c = ap type_word (sym c.in-0.is)

pub returns-in-1 : goal.returns-in-1
unfolding type_word
returns-in-1 c = ap type_word (sym c.in-1.is)

pub returns-in-2 : goal.returns-in-2
unfolding type_word
returns-in-2 c = ap type_word (sym c.in-2.is)

pub returns-in-3 : goal.returns-in-3
unfolding type_word
returns-in-3 c = ap type_word (sym c.in-3.is)

pub returns-in-4 : goal.returns-in-4
unfolding type_word
returns-in-4 c = ap type_word (sym c.in-4.is)

pub returns-in-5 : goal.returns-in-5
unfolding type_word
returns-in-5 c = ap type_word (sym c.in-5.is)

pub returns-in-6 : goal.returns-in-6
unfolding type_word
returns-in-6 c = ap type_word (sym c.in-6.is)

pub returns-in-7 : goal.returns-in-7
unfolding type_word
returns-in-7 c = ap type_word (sym c.in-7.is)

pub returns-in-8 : goal.returns-in-8
unfolding type_word
returns-in-8 c = ap type_word (sym c.in-8.is)

pub returns-in-9 : goal.returns-in-9
unfolding type_word
returns-in-9 c = ap type_word (sym c.in-9.is)

pub returns-in-10 : goal.returns-in-10
unfolding type_word
returns-in-10 c = ap type_word (sym c.in-10.is)

pub returns-in-11 : goal.returns-in-11
unfolding type_word
returns-in-11 c = ap type_word (sym c.in-11.is)

pub returns-in-12 : goal.returns-in-12
unfolding type_word
returns-in-12 c = ap type_word (sym c.in-12.is)

pub returns-in-13 : goal.returns-in-13
unfolding type_word
returns-in-13 c = ap type_word (sym c.in-13.is)

pub returns-in-14 : goal.returns-in-14
unfolding type_word
returns-in-14 c = ap type_word (sym c.in-14.is)

pub returns-in-15 : goal.returns-in-15
unfolding type_word
returns-in-15 c = ap type_word (sym c.in-15.is)
