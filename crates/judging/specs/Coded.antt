-- A reviewer can skip this file. What the code's answer says.
use Rattle.std.specs.Prelude.{Result, Ok, Err}
use Rattle.refusals.specs.First.{Verdict, accepted, refused}
use Rattle.refusals.specs.Number.{number_of}
use Rattle.refusals.specs.declared.Refusal.{Refusal}

-- the verdict that an answer says
abbrev pub verdict_said : Result Unit Refusal → Verdict
verdict_said (Ok x) = accepted
verdict_said (Err why) = refused (number_of why) 0
