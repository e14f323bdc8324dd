-- Document 01, 'Diagrams': a receiver that is fed one line bit at a time, and the blocks that it tests.
use Rattle.std.specs.Prelude.{ℕ, ◌+◌, Bool, false, not, cond, ◌&&◌, List, [], ◌∷◌, ◌++◌, length, get_or, eqb}
use Rattle.bits.specs.Bits.{bit, number}
use Rattle.scrambler.specs.Scrambler.{descrambled, line_after}
use Rattle.block.specs.Block.{decoded, class_of}
use Rattle.block.specs.declared.Edition.{Edition}
use Rattle.block.specs.declared.Class.{Class}
use Rattle.lock.specs.Lock.{lock_fresh, lock_of, slips_of}
use Rattle.lock.specs.Rate.{rate_fresh, rate_of}
use Rattle.receiving.specs.declared.Link.{Link}

-- ---- one tested block: "each tested block updates lock, then error rate"

-- "The receiver starts with zeros and descrambles every tested block." 9/13: "the edition is chosen with the fresh state and kept in it".
abbrev pub link_fresh : Edition → Link
link_fresh ed = record { edition = ed; lock = lock_fresh; rate = rate_fresh; history = 0 }

-- a header is invalid "if its bits are equal"
unfoldable pub valid_of : ℕ → Bool
valid_of header = not (eqb (bit header 0) (bit header 1))

-- the link after a block with this header and this payload as it stands on the line
unfoldable pub link_of : Link → (header payload : ℕ) → Link
link_of l header payload =
    let lock = lock_of l.lock (valid_of header) in
    record {
      edition = l.edition;
      lock = lock;
      rate = rate_of l.rate l.lock.locked lock.locked (valid_of header);
      history = line_after payload l.history;
    }

-- a tested block: whether the receiver is then locked and not high, whether it slipped, the block's class and its decoded vector
pub record Tested : Type 0 where
  pub on : Bool
  pub slipped : Bool
  pub class : Class
  pub vector : List ℕ

unfoldable pub tested_of : Link → (header payload : ℕ) → Tested
tested_of l header payload =
    record {
      on = (link_of l header payload).lock.locked && not (link_of l header payload).rate.high;
      slipped = slips_of l.lock (valid_of header);
      class = class_of l.edition header (descrambled payload l.history);
      vector = decoded l.edition header (descrambled payload l.history);
    }

-- ---- line bits, one at a time

-- the bits since the last tested block, the oldest first; whether the next bit is to be skipped (a slip); the link
pub record Feed : Type 0 where
  pub bits : List ℕ
  pub skip : Bool
  pub link : Link

-- at the first bit of a block
abbrev pub at : Link → Feed
at l = record { bits = []; skip = false; link = l }

-- "Block bits 0 and 1 are the header. .. Bits 2 to 65 are the payload, lowest bit of each field first."
abbrev pub header_of : List ℕ → ℕ
header_of bits = number 2 (λ i. get_or bits i 0)

abbrev pub payload_of : List ℕ → ℕ
payload_of bits = number 64 (λ i. get_or bits (2 + i) 0)

-- the next bit fills a block
abbrev pub fills : Feed → Bool
fills f = eqb (length f.bits) 65

-- after a block of 66 bits: "one line bit after this block is skipped (a slip)"
abbrev pub after_block : Link → List ℕ → Feed
after_block l bits =
    record { bits = []; skip = slips_of l.lock (valid_of (header_of bits)); link = link_of l (header_of bits) (payload_of bits) }

-- after one more bit: it is skipped, or it fills a block, which is tested, or it waits
unfoldable pub feed : Feed → ℕ → Feed
feed f b =
    cond f.skip (at f.link)
    (cond (fills f) (after_block f.link (f.bits ++ b ∷ [])) (record { bits = f.bits ++ b ∷ []; skip = false; link = f.link }))

-- the block that the bit fills, if it fills one
abbrev pub tested_block : Link → List ℕ → Tested
tested_block l bits = tested_of l (header_of bits) (payload_of bits)

unfoldable pub filled : Feed → ℕ → List Tested
filled f b = cond f.skip [] (cond (fills f) (tested_block f.link (f.bits ++ b ∷ []) ∷ []) [])

-- over a list of line bits: the blocks tested, in order, and where the receiver then stands. "Bits that do not fill a block are not tested."
pub record Run : Type 0 where
  pub tested : List Tested
  pub end : Feed

unfoldable pub run : Feed → List ℕ → Run
run f [] = record { tested = []; end = f }
run f (b ∷ bits) =
    let r = run (feed f b) bits in
    record { tested = filled f b ++ r.tested; end = r.end }
