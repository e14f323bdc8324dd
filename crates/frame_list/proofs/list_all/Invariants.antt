-- `frame_list::list_all` meets its contract. Assumes nothing.
use Prim.Native.Nat.{◌-◌, ◌/◌}
use mathlib.Core.Path.{◌≡◌}
use lib.ListN.{length}
use Rattle.frame_list.specs.Listing.{ListsOn}
use Rattle.frame_list.proofs.list_all.Given as goal

abbrev pub invariant-loop-r : goal.invariant-loop-r
invariant-loop-r l = ListsOn l.bytes 0 0 l.initial.list l.r l.list × (length l.list ≡ length l.initial.list)

abbrev pub decreases-loop-r : goal.decreases-loop-r
decreases-loop-r l = length l.bytes / 5 - l.r.word
