-- `encoding::encode_rows` meets its contract: the rows with the control bits of the vector are tried in turn.
use Prim.Native.Nat.{◌-◌}
use Rattle.std.proofs.Common.{◌<◌, IfSome, unwrap_or}
use Rattle.fields.specs.Parts.{spread}
use Rattle.fields.proofs.Choosing.{Trying}
use Rattle.encoding.proofs.encode_rows.Given as goal

abbrev pub invariant-loop-next : goal.invariant-loop-next
invariant-loop-next l = Trying l.edition (spread l.c0 l.c1 l.lanes) (unwrap_or l.next 16) × IfSome l.next (λ r. r < 16)

abbrev pub decreases-loop-next : goal.decreases-loop-next
decreases-loop-next l = 16 - unwrap_or l.next 16
