-- Document 01, 'Refusal numbers', and document 02, 2/13, 8/13 and 9/13: the number of each refusal.
use Rattle.std.specs.Prelude.{ℕ}
use Rattle.refusals.specs.declared.Refusal.{Refusal}
use Rattle.refusals.specs.declared.Refusal.TheVariants.{TooMuch, NotGroups, StartState, Room, ControlByte, Cut, LongBody, RecordKind, Closed, BadState, Range, NoSuchVector, UnknownEdition}

abbrev pub number_of : Refusal → ℕ
number_of TooMuch = 1
number_of NotGroups = 2
number_of StartState = 3
number_of Room = 4
number_of ControlByte = 5
number_of Cut = 6
number_of LongBody = 7
number_of RecordKind = 8
number_of Closed = 9
number_of BadState = 10
number_of Range = 11
number_of NoSuchVector = 12
number_of UnknownEdition = 13
