-- What encoding answers, by the definitions of one block.
use Rattle.std.specs.Prelude.{Option, Some, None, Result}
use Rattle.refusals.specs.Refused.{by_result}
use Rattle.refusals.specs.declared.Refused.{Refused}
use Rattle.block.specs.Block.{Carrier, block, none, EncodeAnswer, carried, refused}
use Rattle.block.specs.declared.Coded.{Coded}

-- the block, or none
abbrev pub carrier_as : Option Coded → Carrier
carrier_as (Some c) = block c.kind c.header c.payload
carrier_as None = none

-- one vector by itself: the document's number and place of a refusal, kind E, or the block
abbrev pub answer_of : Result (Option Coded) Refused → EncodeAnswer
answer_of = by_result (λ c. carried (carrier_as c)) refused
