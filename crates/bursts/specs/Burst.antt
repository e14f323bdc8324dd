-- Document 02, 2/13: what a burst and the closing call answer, the state after them, and what they leave in the lent room.
use Rattle.std.specs.Prelude.{ℕ, ◌+◌, Bool, true, false, ◌≡◌, List, [], ◌∷◌, ◌++◌, length, drop, Result}
use Rattle.bits.specs.Bits.{line_bits}
use Rattle.refusals.specs.First.{first, by_verdict}
use Rattle.refusals.specs.Refused.{by_result}
use Rattle.refusals.specs.declared.Refused.{Refused}
use Rattle.block.specs.Block.{edition_check}
use Rattle.diagrams.specs.Diagram.{state_number}
use Rattle.lock.specs.Lock.{lock_fresh}
use Rattle.lock.specs.Rate.{rate_fresh}
use Rattle.diagrams.specs.declared.State.TheVariants.{Init}
use Rattle.receiving.specs.Machine.{Run, run}
use Rattle.receiving.specs.Receive.{Judged, judge, judged_alone, counts_of, handed_of}
use Rattle.receiving.specs.Parts.{no_counts, plus, none_handed, plus_handed, Settled, settle, bytes_of}
use Rattle.receiving.specs.Answer.{ReceiveAnswer, received, answer_of}
use Rattle.receiving.specs.Answer as Answer
use Rattle.receiving.specs.declared.Summary.{Summary}
use Rattle.kept_state.specs.declared.State.{State}
use Rattle.bursts.specs.declared.Added.{Added}
use Rattle.bursts.specs.declared.Reply.{Reply}
use Rattle.kept_state.specs.Meaning.{feed_meant, diagram_meant, held_meant, carried_for, kept_for, have_for}
use Rattle.judging.specs.Judging.{burst_verdict}

-- ---- a fresh state, "chosen with" its edition (document 02, 9/13), by the edition's number

abbrev pub state_fresh : ℕ → State
state_fresh edition =
    record {
      closed = false;
      bytes = 0;
      edition = edition;
      lock = lock_fresh;
      rate = rate_fresh;
      history = 0;
      carried = carried_for [];
      skip = false;
      diagram = state_number Init;
      have = false;
      held = kept_for [];
      counts = no_counts;
      vectors = 0;
      handed = none_handed;
    }

-- it, or refusal 13
pub data BeginAnswer : Type 0 where
  begun : State → BeginAnswer
  refused : (number place : ℕ) → BeginAnswer

unfoldable pub begin_answer : ℕ → BeginAnswer
begin_answer edition = by_verdict (first (edition_check edition ∷ [])) (begun (state_fresh edition)) refused

-- the document's number and values for each case
abbrev pub begun_of : Result State Refused → BeginAnswer
begun_of = by_result begun refused

-- the promise: `begin` answered `r`
abbrev pub Begins : ℕ → Result State Refused → Type 0
Begins edition r = begun_of r ≡ begin_answer edition

-- ---- a burst that is accepted: the receiver goes on where it stands

unfoldable pub run_from : State → List ℕ → Run
run_from s line = run (feed_meant s) (line_bits line)

-- its blocks in their states, but for the last, which is held until the next is tested
unfoldable pub settled_from : State → List ℕ → Settled
settled_from s line = settle (diagram_meant s) (held_meant s ++ (run_from s line).tested)

unfoldable pub burst_bytes : State → List ℕ → List ℕ
burst_bytes s line = bytes_of (settled_from s line).judged

-- what it adds to the counts: reasons are counted when a block is tested, begun and replaced when its vector is handed out
unfoldable pub burst_added : State → List ℕ → Added
burst_added s line = record { counts = counts_of (run_from s line).tested; handed = handed_of (settled_from s line).judged }

unfoldable pub burst_state : State → List ℕ → State
burst_state s line =
    record {
      closed = false;
      bytes = s.bytes + length line;
      edition = s.edition;
      lock = (run_from s line).end.link.lock;
      rate = (run_from s line).end.link.rate;
      history = (run_from s line).end.link.history;
      carried = carried_for (run_from s line).end.bits;
      skip = (run_from s line).end.skip;
      diagram = state_number (settled_from s line).state;
      have = have_for (settled_from s line).held;
      held = kept_for (settled_from s line).held;
      counts = plus s.counts (burst_added s line).counts;
      vectors = s.vectors + length (settled_from s line).judged;
      handed = plus_handed s.handed (burst_added s line).handed;
    }

-- ---- "a closing call for the last vector": the end of the input

unfoldable pub close_judged : State → List Judged
close_judged s = judge (diagram_meant s) (held_meant s)

unfoldable pub close_added : State → Added
close_added s = record { counts = no_counts; handed = handed_of (close_judged s) }

-- closed, with the last vector handed out; nothing is held, and all else stays
unfoldable pub close_state : State → State
close_state s =
    record {
      closed = true;
      bytes = s.bytes;
      edition = s.edition;
      lock = s.lock;
      rate = s.rate;
      history = s.history;
      carried = s.carried;
      skip = s.skip;
      diagram = s.diagram;
      have = false;
      held = kept_for [];
      counts = s.counts;
      vectors = s.vectors + length (close_judged s);
      handed = plus_handed s.handed (close_added s).handed;
    }

-- ---- the calls

-- the summary of the line so far; `vectors` are those handed out so far. Only the closing call has a last vector.
abbrev pub summary_in : State → (alone : Bool) → Summary
summary_in s alone =
    record { counts = s.counts; locked = s.lock.locked; high = s.rate.high; vectors = s.vectors; alone = alone; handed = s.handed }

-- what a call hands back, and what it leaves in the room
pub record Called : Type 0 where
  pub state : State
  pub answer : ReceiveAnswer
  pub added : Added
  pub room : List ℕ

-- "A refused burst changes neither state nor buffers"
unfoldable pub refuses : State → List ℕ → (number place : ℕ) → Called
refuses s room number place =
    record { state = s; answer = Answer.refused number place; added = record { counts = no_counts; handed = none_handed }; room = room }

-- bytes at the start of a room, the rest unchanged
abbrev pub at_start : (bytes room : List ℕ) → List ℕ
at_start bytes room = bytes ++ drop (length bytes) room

-- a burst that is accepted, and an accepted closing call
abbrev pub burst_done : State → (line room : List ℕ) → Called
burst_done s line room =
    record {
      state = burst_state s line;
      answer = received (summary_in (burst_state s line) false);
      added = burst_added s line;
      room = at_start (burst_bytes s line) room;
    }

abbrev pub close_done : State → (room : List ℕ) → Called
close_done s room =
    record {
      state = close_state s;
      answer = received (summary_in (close_state s) (judged_alone (close_judged s)));
      added = close_added s;
      room = at_start (bytes_of (close_judged s)) room;
    }

-- any burst, and any closing call
unfoldable pub burst_call : State → (line room : List ℕ) → Called
burst_call s line room = by_verdict (burst_verdict s (length line) (length room)) (burst_done s line room) (refuses s room)

unfoldable pub close_call : State → (room : List ℕ) → Called
close_call s room = by_verdict (burst_verdict s 0 (length room)) (close_done s room) (refuses s room)

-- the promise: a call that comes to `c` handed back `r` and left `room'`
abbrev pub Replies : Called → Reply → List ℕ → Type 0
Replies c r room' = (r.state ≡ c.state) × (answer_of r.answer ≡ c.answer) × (r.added ≡ c.added) × (room' ≡ c.room)
