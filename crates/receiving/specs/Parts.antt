-- Document 02, 2/13: receiving a line in parts. All blocks of a part but the last take their states in it; the last is held until the next
-- block is tested. The counts of the parts add up.
use Rattle.std.specs.Prelude.{ℕ, ◌+◌}
use mathlib.Core.List.{List, [], ◌∷◌, map, flatten}
use Rattle.diagrams.specs.declared.State.{State}
use Rattle.receiving.specs.Machine.{Tested}
use Rattle.receiving.specs.Receive.{lets_end, state_of, Judged, answer}
use Rattle.receiving.specs.declared.Counts.{Counts}
use Rattle.receiving.specs.declared.Handed.{Handed}

-- these blocks, the diagram's state, and the block held, if there is one
pub record Settled : Type 0 where
  pub judged : List Judged
  pub state : State
  pub held : List Tested

-- from a state, over a list of blocks
unfoldable pub settle : State → List Tested → Settled
settle s [] = record { judged = []; state = s; held = [] }
settle s (t ∷ []) = record { judged = []; state = s; held = t ∷ [] }
settle s (t ∷ u ∷ ts) =
    let s' = state_of s t (lets_end u) in
    let rest = settle s' (u ∷ ts) in
    record { judged = record { state = s'; block = t } ∷ rest.judged; state = rest.state; held = rest.held }

-- the bytes of the vectors of blocks in their states
abbrev pub bytes_of : List Judged → List ℕ
bytes_of js = flatten (map answer js)

-- ---- the counts of blocks, and of vectors handed out

-- nothing counted yet
abbrev pub no_counts : Counts
no_counts = record { tested = 0; slips = 0; headers = 0; types = 0; codes = 0; sets = 0 }

-- two counts together
abbrev pub plus : Counts → Counts → Counts
plus a b =
    record {
      tested = a.tested + b.tested;
      slips = a.slips + b.slips;
      headers = a.headers + b.headers;
      types = a.types + b.types;
      codes = a.codes + b.codes;
      sets = a.sets + b.sets;
    }

-- the same of the vectors
abbrev pub none_handed : Handed
none_handed = record { begun = 0; replaced = 0 }

abbrev pub plus_handed : Handed → Handed → Handed
plus_handed a b = record { begun = a.begun + b.begun; replaced = a.replaced + b.replaced }
