-- A reviewer can skip this file. The states that the code makes a receiver of, and what it then is.
use Rattle.std.specs.Prelude.{◌≤◌, ◌<◌, ◌≡◌, length}
use Rattle.block.specs.Block.{edition_of}
use Rattle.carrying.specs.Carrying.{Sound}
use Rattle.receiving.specs.Counted.{Within, HandedWithin}
use Rattle.receiving.specs.Ranges.{InRange}
use Rattle.receiving.specs.Loop as Loop
use Rattle.receiving.specs.declared.Receiver.{Receiver}
use Rattle.kept_state.specs.declared.State.{State}
use Rattle.kept_state.specs.Meaning.{states, link_meant, feed_meant, diagram_meant, held_meant}

-- no number of a state is above its limit
pub record WithinLimits (s : State) : Type 0 where
  pub range : InRange (link_meant s)
  pub bytes : s.bytes ≤ 825000
  pub counts : Within 100000 s.counts
  pub vectors : s.vectors ≤ 100000
  pub handed : HandedWithin 100000 s.handed
  pub carried : s.carried.count < 66
  pub diagram : s.diagram < length (states (edition_of s.edition))

-- a receiver is what a state means
pub record Means (s : State) (r : Receiver) : Type 0 where
  pub feed : Loop.feed_in r ≡ feed_meant s
  pub range : InRange r.link
  pub sound : Sound r.carried
  pub state : r.state ≡ diagram_meant s
  pub held : Loop.held_in r ≡ held_meant s
