-- A reviewer can skip this file. Counts on the way.
use Rattle.std.specs.Prelude.{ℕ, ◌+◌, ◌≤◌, cond}
use Rattle.block.specs.Block.{is_s, kind_in}
use Rattle.block.specs.declared.Class.{Class}
use Rattle.block.specs.declared.Reason.TheVariants.{Header, BlockType, ControlCode, SetCode}
use Rattle.receiving.specs.Machine.{Tested}
use Rattle.receiving.specs.Receive.{bad_for, Judged, begins, replaces}
use Rattle.receiving.specs.declared.Counts.{Counts}
use Rattle.receiving.specs.declared.Handed.{Handed}

-- one more block of this class, as far as the reasons go
unfoldable pub reasoned : Counts → Class → Counts
reasoned c k =
    record {
      tested = c.tested;
      slips = c.slips;
      headers = c.headers + cond (bad_for Header k) 1 0;
      types = c.types + cond (bad_for BlockType k) 1 0;
      codes = c.codes + cond (bad_for ControlCode k) 1 0;
      sets = c.sets + cond (bad_for SetCode k) 1 0;
    }

-- one more tested block
unfoldable pub counted : Counts → Tested → Counts
counted c t =
    reasoned
    (record {
      tested = c.tested + 1;
      slips = c.slips + cond t.slipped 1 0;
      headers = c.headers;
      types = c.types;
      codes = c.codes;
      sets = c.sets;
    })
    t.class

-- no count is above n
pub record Within (n : ℕ) (c : Counts) : Type 0 where
  pub tested : c.tested ≤ n
  pub slips : c.slips ≤ n
  pub headers : c.headers ≤ n
  pub types : c.types ≤ n
  pub codes : c.codes ≤ n
  pub sets : c.sets ≤ n

-- ---- the same of the vectors handed out

-- one more vector
unfoldable pub hand_out : Handed → Judged → Handed
hand_out h j = record { begun = h.begun + cond (begins j) 1 0; replaced = h.replaced + cond (replaces j) 1 0 }

-- by the state: a block that is answered as decoded, and one that is answered as the error vector
abbrev pub decoded_out : Handed → Class → Handed
decoded_out h k = record { begun = h.begun + cond (is_s (kind_in k)) 1 0; replaced = h.replaced }

abbrev pub replaced_out : Handed → Handed
replaced_out h = record { begun = h.begun; replaced = h.replaced + 1 }

pub record HandedWithin (n : ℕ) (h : Handed) : Type 0 where
  pub begun : h.begun ≤ n
  pub replaced : h.replaced ≤ n
