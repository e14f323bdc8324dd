-- A reviewer can skip this file. Blocks while not locked: what the code's search for lock does, in the words of Machine and Loop.
use Rattle.std.specs.Prelude.{◌≡◌, true, false, cond, ℕ, ◌+◌, ◌-◌, ◌*◌, ◌/◌, ◌%◌, eqb, get_or}
use Rattle.block.specs.Block.{decoded, class_of}
use Rattle.block.specs.declared.Edition.{Edition}
use Rattle.block.specs.declared.Class.{Class}
use Rattle.block.specs.Types.{types}
use Rattle.vectors.specs.Vector.{vector_bytes}
use Rattle.vectors.specs.declared.Vector.{Vector}
use Rattle.diagrams.specs.declared.State.TheVariants.{Init}
use Rattle.receiving.specs.Counted.{reasoned}
use Rattle.receiving.specs.declared.Counts.{Counts}
use Rattle.receiving.specs.declared.Progress.{Progress}
use Rattle.hunting.specs.declared.Search.{Search}

-- not locked, with no header tested invalid and no window, at the first bit of a block, with a block held that was tested so, in state INIT
pub record Hunts (p : Progress) : Type 0 where
  pub skip : p.receiver.skip ≡ false
  pub none : p.receiver.carried.count ≡ 0
  pub have : p.receiver.have ≡ true
  pub off : p.receiver.held.on ≡ false
  pub state : p.receiver.state ≡ Init
  pub locked : p.receiver.link.lock.locked ≡ false
  pub clean : p.receiver.link.lock.invalid ≡ 0
  pub blocks : p.receiver.link.rate.blocks ≡ 0
  pub misses : p.receiver.link.rate.invalid ≡ 0
  pub low : p.receiver.link.rate.high ≡ false

-- the receiver that a search has come to. It holds another block than the one tested last, but that is answered as Local Fault all the same.
abbrev pub after_search : Progress → Search → Progress
after_search p s =
    record {
      receiver =
          record {
            skip = p.receiver.skip;
            carried = p.receiver.carried;
            link =
                record {
                  edition = p.receiver.link.edition;
                  lock = record { tested = s.tested; invalid = p.receiver.link.lock.invalid; locked = p.receiver.link.lock.locked };
                  rate = p.receiver.link.rate;
                  history = s.history;
                };
            state = p.receiver.state;
            have = p.receiver.have;
            held = p.receiver.held;
          };
      pos = s.pos;
      at = s.at;
      counts =
          record {
            tested = p.counts.tested + s.count;
            slips = p.counts.slips + s.misses;
            headers = p.counts.headers + s.misses;
            types = p.counts.types + s.types;
            codes = p.counts.codes;
            sets = p.counts.sets;
          };
      handed = p.handed;
    }

-- 1 for a header whose bits are equal, else 0
abbrev pub miss_of : ℕ → ℕ
miss_of header = 1 - (header / 2 + header) % 2

-- 1 for a control header, else 0
abbrev pub control_of : ℕ → ℕ
control_of header = header % 2 * (1 - header / 2)

-- 1 for a control block of no type, else 0; its type's row is 0 where it is none
abbrev pub untyped_of : ℕ → ℕ → ℕ
untyped_of header row = cond (eqb row 0) (control_of header) 0

-- a block with this header and descrambled payload is of some class and vector, and counted for a bad header, for no type, or not at all
pub record Tests (ed : Edition) (header x : ℕ) : Type 0 where
  pub class : Class
  pub vector : Vector
  pub class_is : class ≡ class_of ed header x
  pub vector_is : vector_bytes vector ≡ decoded ed header x
  pub counts : (c : Counts)
      → record { tested = c.tested; slips = c.slips; headers = c.headers + miss_of header; types = c.types + untyped_of header (get_or types (x % 256) 0); codes = c.codes; sets = c.sets } ≡ reasoned c class
