-- A reviewer can skip this file. Blocks in lock: what one of them does, and where a run of them has come, in the words of Machine and Loop.
use Rattle.std.specs.Prelude.{◌≡◌, Bool, true, false, cond, List, ℕ, ◌+◌, ◌*◌, ◌%◌, ◌<◌, eqb, ltb, length}
use Rattle.block.specs.Block.{decoded, class_of, kind_in, is_error}
use Rattle.block.specs.declared.Class.{Class}
use Rattle.scrambler.specs.Scrambler.{descrambled, line_after}
use Rattle.vectors.specs.Vector.{vector_bytes}
use Rattle.vectors.specs.declared.Vector.{Vector}
use Rattle.lock.specs.Lock.{lock_of}
use Rattle.lock.specs.Rate.{rate_of}
use Rattle.diagrams.specs.Diagram.{diagram_of}
use Rattle.diagrams.specs.declared.State.{State}
use Rattle.diagrams.specs.declared.State.TheVariants.{Control, Data}
use Rattle.blocks.specs.Blocks.{header_at, payload_at}
use Rattle.receiving.specs.Machine.{valid_of}
use Rattle.receiving.specs.Loop.{Under, Turns}
use Rattle.receiving.specs.declared.Handed.{Handed}
use Rattle.receiving.specs.declared.Progress.{Progress}
use Rattle.lock_steps.specs.declared.Run.{Run}

-- locked and not high, at the first bit of a block, with a block held that was tested so
pub record InLock (p : Progress) : Type 0 where
  pub skip : p.receiver.skip ≡ false
  pub none : p.receiver.carried.count ≡ 0
  pub have : p.receiver.have ≡ true
  pub on : p.receiver.held.on ≡ true
  pub locked : p.receiver.link.lock.locked ≡ true
  pub high : p.receiver.link.rate.high ≡ false
  pub few : p.receiver.link.rate.invalid < 16
  pub stays : p.receiver.held.slipped ≡ false

-- a block of this class goes from one state to another, whatever follows
unfoldable pub GoesTo : (to from : State) → Class → Type 0
GoesTo to from k = (e : Bool) → diagram_of from (kind_in k) e ≡ to

-- the state that a stretch of blocks stays in, by their header: D of data blocks, C of blocks of eight idles
abbrev pub stretch_state : ℕ → State
stretch_state header = cond (eqb header 2) Data Control

-- a block with a valid header comes next, and ends neither the line nor the window
pub record Comes (line room : List ℕ) (p : Progress) (h x : ℕ) : Type 0 where
  pub under : Under line room p
  pub lock : InLock p
  pub here : p.pos + 66 < 8 * length line
  pub header : h ≡ header_at line p.pos
  pub payload : x ≡ payload_at line p.pos
  pub valid : valid_of h ≡ true
  pub more : p.receiver.link.rate.blocks + 1 < 19531

-- it is of this class and vector, and not bad
pub record Is (p : Progress) (header payload : ℕ) (k : Class) (v : Vector) : Type 0 where
  pub class : k ≡ class_of p.receiver.link.edition header (descrambled payload p.receiver.link.history)
  pub vector : vector_bytes v ≡ decoded p.receiver.link.edition header (descrambled payload p.receiver.link.history)
  pub good : is_error (kind_in k) ≡ false

-- the receiver after it: the diagram's state, and the counts of vectors, are those after the block that was held
abbrev pub advanced_of : Progress → (history : ℕ) → State → Class → Vector → Handed → Progress
advanced_of p history s k v n =
    record {
      receiver =
          record {
            skip = false;
            carried = p.receiver.carried;
            link =
                record {
                  edition = p.receiver.link.edition;
                  lock = lock_of p.receiver.link.lock true;
                  rate = rate_of p.receiver.link.rate true true true;
                  history = history;
                };
            state = s;
            have = true;
            held = record { on = true; slipped = false; class = k; vector = v };
          };
      pos = p.pos + 66;
      at = p.at + 10;
      counts =
          record {
            tested = p.counts.tested + 1;
            slips = p.counts.slips;
            headers = p.counts.headers;
            types = p.counts.types;
            codes = p.counts.codes;
            sets = p.counts.sets;
          };
      handed = n;
    }

-- the receiver that a run of blocks has come to, from where it began
abbrev pub ran_of : Progress → Run → Progress
ran_of p s =
    record {
      receiver =
          record {
            skip = false;
            carried = p.receiver.carried;
            link =
                record {
                  edition = p.receiver.link.edition;
                  lock =
                      record {
                        tested = (p.receiver.link.lock.tested + s.count) % 64;
                        invalid = cond (ltb (p.receiver.link.lock.tested + s.count) 64) p.receiver.link.lock.invalid 0;
                        locked = true;
                      };
                  rate = record { blocks = p.receiver.link.rate.blocks + s.count; invalid = p.receiver.link.rate.invalid; high = false };
                  history = s.history;
                };
            state = s.state;
            have = true;
            held = record { on = true; slipped = false; class = s.class; vector = s.vector };
          };
      pos = p.pos + 66 * s.count;
      at = s.at;
      counts =
          record {
            tested = p.counts.tested + s.count;
            slips = p.counts.slips;
            headers = p.counts.headers;
            types = p.counts.types;
            codes = p.counts.codes;
            sets = p.counts.sets;
          };
      handed = s.handed;
    }

-- in lock, with n blocks more, which end neither the line nor the window
pub record MoreAhead (line room : List ℕ) (p : Progress) (n : ℕ) : Type 0 where
  pub under : Under line room p
  pub lock : InLock p
  pub here : p.pos + 66 * n < 8 * length line
  pub more : p.receiver.link.rate.blocks + n < 19531

-- one block of a stretch: it is tested, the block held is answered, and it is held in turn
pub record Steps (line room room' : List ℕ) (payload : ℕ) (p p' : Progress) : Type 0 where
  pub turns : Turns line room room' p p'
  pub lock : InLock p'
  pub pos : p'.pos ≡ p.pos + 66
  pub blocks : p'.receiver.link.rate.blocks ≡ p.receiver.link.rate.blocks + 1
  pub history : p'.receiver.link.history ≡ line_after payload p.receiver.link.history
