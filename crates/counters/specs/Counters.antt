-- Document 02, 3/13: "A counters record is lent to each call and updated in place".
use Rattle.std.specs.Prelude.{ℕ, ◌+◌, min, ◌≡◌, List, length, Result}
use Rattle.refusals.specs.declared.Refused.{Refused}
use Rattle.receiving.specs.Answer.{ReceiveAnswer, received, refused, receive_answer, Receives}
use Rattle.receiving.specs.declared.Counts.{Counts}
use Rattle.receiving.specs.declared.Handed.{Handed}
use Rattle.receiving.specs.declared.Summary.{Summary}
use Rattle.counters.specs.declared.Counters.{Counters}

-- "each field becomes its old number plus what this receiving call added, and stays at 4,294,967,295 once it would pass that"
unfoldable pub becomes : (old added : ℕ) → ℕ
becomes old added = min (old + added) 4294967295

-- all eight, from what tested blocks and what vectors handed out were counted for
abbrev pub updated : Counters → Counts → Handed → Counters
updated c n h =
    record {
      tested = becomes c.tested n.tested;
      slips = becomes c.slips n.slips;
      headers = becomes c.headers n.headers;
      types = becomes c.types n.types;
      codes = becomes c.codes n.codes;
      sets = becomes c.sets n.sets;
      begun = becomes c.begun h.begun;
      replaced = becomes c.replaced h.replaced;
    }

-- "A refused call changes no field."
abbrev pub counters_after : Counters → ReceiveAnswer → Counters
counters_after c (received s) = updated c s.counts s.handed
counters_after c (refused number place) = c

-- the promise: `receive` was lent `room` and the counters `c` too, answered `r` and left `room'` and `c'`
abbrev pub ReceivesCounting : (edition : ℕ) (line room : List ℕ) (c : Counters) (r : Result Summary Refused) (room' : List ℕ) (c' : Counters) → Type 0
ReceivesCounting edition line room c r room' c' = Receives edition line room r room' × (c' ≡ counters_after c (receive_answer edition line (length room)))
