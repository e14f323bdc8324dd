-- A reviewer can skip this file. What the parts of the code do, in the words of Machine and Receive.
use Rattle.std.specs.Prelude.{◌≡◌, Bool, true, false, cond, List, [], ◌∷◌, ◌++◌, ℕ, ◌*◌, ◌≤◌, ◌<◌, length, take, drop}
use Rattle.bits.specs.Bits.{line_bits}
use Rattle.carrying.specs.Carrying.{carried_bits, Sound}
use Rattle.vectors.specs.Vector.{vector_bytes}
use Rattle.block.specs.declared.Edition.{Edition}
use Rattle.diagrams.specs.declared.State.{State}
use Rattle.diagrams.specs.declared.State.TheVariants.{Init}
use Rattle.receiving.specs.Machine.{Feed, Run, Tested, run, at, link_fresh}
use Rattle.receiving.specs.Receive.{state_of, answer_in, is_terminate, counts_of, handed_of}
use Rattle.receiving.specs.Parts.{settle, bytes_of, plus, plus_handed}
use Rattle.receiving.specs.Counted.{Within, hand_out, HandedWithin}
use Rattle.receiving.specs.Ranges.{InRange}
use Rattle.receiving.specs.declared.Held.{Held}
use Rattle.receiving.specs.declared.Receiver.{Receiver}
use Rattle.receiving.specs.declared.Counts.{Counts}
use Rattle.receiving.specs.declared.Handed.{Handed}
use Rattle.receiving.specs.declared.Progress.{Progress}

-- ---- what the code holds, as the definitions have it

-- a block that is held is a tested block
unfoldable pub tested_in : Held → Tested
tested_in h = record { on = h.on; slipped = h.slipped; class = h.class; vector = vector_bytes h.vector }

-- the block tested last, if there is one
unfoldable pub held_in : Receiver → List Tested
held_in r = cond r.have (tested_in r.held ∷ []) []

-- the bits since the last tested block, whether the next is skipped, and the link
unfoldable pub feed_in : Receiver → Feed
feed_in r = record { bits = carried_bits r.carried; skip = r.skip; link = r.link }

-- a receiver of an edition before the first bit
pub record Fresh (ed : Edition) (r : Receiver) : Type 0 where
  pub feed : feed_in r ≡ at (link_fresh ed)
  pub range : InRange r.link
  pub sound : Sound r.carried
  pub state : r.state ≡ Init
  pub held : held_in r ≡ []

-- ---- what a receiver comes to at the end of the line, from where it is

-- the bytes in the room, the state, the block held, the counts of blocks and vectors, and where the receiver then stands
pub record Upshot : Type 0 where
  pub bytes : List ℕ
  pub state : State
  pub held : List Tested
  pub counts : Counts
  pub handed : Handed
  pub end : Feed

-- from what is still to be run over
abbrev pub upshot_of : List ℕ → State → List Tested → Counts → Handed → Run → Upshot
upshot_of written s held c h r =
    record {
      bytes = written ++ bytes_of (settle s (held ++ r.tested)).judged;
      state = (settle s (held ++ r.tested)).state;
      held = (settle s (held ++ r.tested)).held;
      counts = plus c (counts_of r.tested);
      handed = plus_handed h (handed_of (settle s (held ++ r.tested)).judged);
      end = r.end;
    }

-- from the progress of a receiver
unfoldable pub upshot : (line room : List ℕ) → Progress → Upshot
upshot line room p =
    upshot_of (take p.at room) p.receiver.state (held_in p.receiver) p.counts p.handed
    (run (feed_in p.receiver) (drop p.pos (line_bits line)))

-- on the way: all numbers are in range, and what is still to be written fits the room
pub record Under (line room : List ℕ) (p : Progress) : Type 0 where
  pub range : InRange p.receiver.link
  pub sound : Sound p.receiver.carried
  pub pos : p.pos ≤ 8 * length line
  pub at : p.at ≤ length room
  pub fits : length (upshot line room p).bytes ≤ length room
  pub counts : Within p.pos p.counts
  pub handed : HandedWithin p.pos p.handed

-- one turn leaves what comes of it, and what stands in the room behind the bytes written
pub record Turns (line room room' : List ℕ) (p p' : Progress) : Type 0 where
  pub under : Under line room' p'
  pub same : upshot line room' p' ≡ upshot line room p
  pub past : p.pos < p'.pos
  pub grows : p.at ≤ p'.at
  pub rest : drop p'.at room' ≡ drop p'.at room
  pub len : length room' ≡ length room

-- some turns, or none, leave what comes of it, and what stands in the room behind the bytes written; the line does not end
pub record Stretches (line room room' : List ℕ) (p p' : Progress) : Type 0 where
  pub under : Under line room' p'
  pub same : upshot line room' p' ≡ upshot line room p
  pub past : p.pos ≤ p'.pos
  pub ends : p'.pos < 8 * length line
  pub grows : p.at ≤ p'.at
  pub rest : drop p'.at room' ≡ drop p'.at room
  pub len : length room' ≡ length room

-- the end of the line: everything is settled but the block that is held
pub record Ends (line room room' : List ℕ) (r : Receiver) (p : Progress) : Type 0 where
  pub range : InRange p.receiver.link
  pub sound : Sound p.receiver.carried
  pub feed : feed_in p.receiver ≡ (run (feed_in r) (line_bits line)).end
  pub state : p.receiver.state ≡ (settle r.state (held_in r ++ (run (feed_in r) (line_bits line)).tested)).state
  pub held : held_in p.receiver ≡ (settle r.state (held_in r ++ (run (feed_in r) (line_bits line)).tested)).held
  pub bytes : take p.at room' ≡ bytes_of (settle r.state (held_in r ++ (run (feed_in r) (line_bits line)).tested)).judged
  pub at : p.at ≤ length room
  pub rest : drop p.at room' ≡ drop p.at room
  pub len : length room' ≡ length room
  pub counts : p.counts ≡ counts_of (run (feed_in r) (line_bits line)).tested
  pub handed : p.handed ≡ handed_of (settle r.state (held_in r ++ (run (feed_in r) (line_bits line)).tested)).judged
  pub few : HandedWithin (8 * length line) p.handed

-- what a receiver writes of a line, the block that it then holds aside
abbrev pub written_by : Receiver → List ℕ → List ℕ
written_by r line = bytes_of (settle r.state (held_in r ++ (run (feed_in r) (line_bits line)).tested)).judged

-- ---- the answer of the block held, if there is one

-- the state after it
abbrev pub held_state : Bool → State → Held → Bool → State
held_state have s h ends = cond have (state_of s (tested_in h) ends) s

-- its bytes
abbrev pub held_bytes : Bool → State → Held → Bool → List ℕ
held_bytes have s h ends = cond have (answer_in (state_of s (tested_in h) ends) (vector_bytes h.vector)) []

-- the counts of vectors with it
abbrev pub held_handed : Bool → Handed → State → Held → Bool → Handed
held_handed have n s h ends = cond have (hand_out n (record { state = state_of s (tested_in h) ends; block = tested_in h })) n

-- at the end of the input: whether it is judged without its successor
abbrev pub held_alone : Bool → State → Held → Bool
held_alone have s h = cond have (is_terminate (held_state have s h true)) false
