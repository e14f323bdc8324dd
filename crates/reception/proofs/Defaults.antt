-- What the defaults give: a receiver before the first bit, and no counts. Assumes nothing.
use mathlib.Core.Path.{◌≡◌}
use mathlib.Core.Bool.{false}
use Rattle.block.specs.declared.Edition.{Edition}
use Rattle.lock.specs.declared.Lock.{Lock}
use Rattle.lock.specs.declared.Rate.{Rate}
use Rattle.receiving.specs.Machine.{link_fresh}
use Rattle.receiving.specs.declared.Counts.{Counts}
use Rattle.receiving.specs.declared.Handed.{Handed}
use Rattle.receiving.specs.declared.Link.{Link}
use Rattle.receiving.specs.declared.Receiver.{Receiver}
use Rattle.reception.proofs.Looping.{begun}

-- a fresh link
abbrev linked : Edition → Lock → Rate → Link
linked ed l r = record { edition = ed; lock = l; rate = r; history = 0 }

pub link_default : (ed : Edition) (l : Lock) (r : Rate) → (l.tested ≡ 0) × ((l.invalid ≡ 0) × (l.locked ≡ false)) → (r.blocks ≡ 0) × ((r.invalid ≡ 0) × (r.high ≡ false))
    → linked ed l r ≡ link_fresh ed
link_default ed l r e f =
    λ i. record {
      edition = ed;
      lock = record { tested = e.0 i; invalid = e.1.0 i; locked = e.1.1 i };
      rate = record { blocks = f.0 i; invalid = f.1.0 i; high = f.1.1 i };
      history = 0;
    }

-- nothing counted
pub begun_default : (r : Receiver) (c : Counts) (h : Handed)
    → (c.tested ≡ 0) × ((c.slips ≡ 0) × ((c.headers ≡ 0) × ((c.types ≡ 0) × ((c.codes ≡ 0) × (c.sets ≡ 0)))))
    → (h.begun ≡ 0) × (h.replaced ≡ 0)
    → record { receiver = r; pos = 0; at = 0; counts = c; handed = h } ≡ begun r
begun_default r c h e f =
    λ i. record {
      receiver = r;
      pos = 0;
      at = 0;
      counts = record { tested = e.0 i; slips = e.1.0 i; headers = e.1.1.0 i; types = e.1.1.1.0 i; codes = e.1.1.1.1.0 i; sets = e.1.1.1.1.1 i };
      handed = record { begun = f.0 i; replaced = f.1 i };
    }
