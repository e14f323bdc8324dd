-- A reviewer can skip this file. What the parts of the code do.
use Rattle.std.specs.Prelude.{ℕ, ◌+◌, ◌/◌, ◌≤◌, true, false, cond, []}
use Rattle.diagrams.specs.Diagram.{state_number}
use Rattle.receiving.specs.Counted.{Within, HandedWithin}
use Rattle.receiving.specs.Parts.{plus, plus_handed}
use Rattle.receiving.specs.Loop as Loop
use Rattle.receiving.specs.declared.Handed.{Handed}
use Rattle.receiving.specs.declared.Progress.{Progress}
use Rattle.kept_state.specs.declared.State.{State}
use Rattle.kept_state.specs.Meaning.{kept_for}

-- no sum of a state's numbers with those of a receiver's progress is large
pub record SumsFit (s : State) (line : ℕ) (p : Progress) : Type 0 where
  pub bytes : s.bytes + line ≤ 825000
  pub counts : Within 1000000 s.counts
  pub added : Within 1000000 p.counts
  pub vectors : s.vectors ≤ 1000000
  pub room : p.at ≤ 10000000
  pub handed : HandedWithin 1000000 s.handed
  pub out : HandedWithin 1000000 p.handed

-- the state after a receiver's progress over so many bytes
abbrev pub progressed : State → ℕ → Progress → State
progressed s line p =
    record {
      closed = false;
      bytes = s.bytes + line;
      edition = s.edition;
      lock = p.receiver.link.lock;
      rate = p.receiver.link.rate;
      history = p.receiver.link.history;
      carried = p.receiver.carried;
      skip = p.receiver.skip;
      diagram = state_number p.receiver.state;
      have = p.receiver.have;
      held = kept_for (Loop.held_in p.receiver);
      counts = plus s.counts p.counts;
      vectors = s.vectors + p.at / 10;
      handed = plus_handed s.handed p.handed;
    }

-- the state after the closing call, whose vector is counted so
abbrev pub closed_with : State → Handed → State
closed_with s last =
    record {
      closed = true;
      bytes = s.bytes;
      edition = s.edition;
      lock = s.lock;
      rate = s.rate;
      history = s.history;
      carried = s.carried;
      skip = s.skip;
      diagram = s.diagram;
      have = false;
      held = kept_for [];
      counts = s.counts;
      vectors = s.vectors + cond s.have 1 0;
      handed = plus_handed s.handed last;
    }
