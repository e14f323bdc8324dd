-- Document 01, 'Diagrams', Error rate.
use Rattle.std.specs.Prelude.{◌+◌, Bool, false, ◌&&◌, ◌||◌, cond, leb}
use Rattle.lock.specs.declared.Rate.{Rate}
use Rattle.lock.specs.Lock.{invalid_of}

abbrev pub rate_fresh : Rate
rate_fresh = record { blocks = 0; invalid = 0; high = false }

-- One tested block of a window of 19,531. "The 16th invalid header in a window sets `high` at once. A window that ends with
-- fewer clears it; one that ends with 16 or more keeps it."
unfoldable pub window_of : Rate → Bool → Rate
window_of r valid =
    cond (leb 19531 (r.blocks + 1))
    (record { blocks = 0; invalid = 0; high = leb 16 (r.invalid + invalid_of valid) })
    (record { blocks = r.blocks + 1; invalid = r.invalid + invalid_of valid; high = leb 16 (r.invalid + invalid_of valid) || r.high })

-- A block by whether the receiver was locked before it and is after it: the first window begins "with the block after the one
-- that gave lock", and "loss of lock clears all of this".
unfoldable pub rate_of : Rate → (before after valid : Bool) → Rate
rate_of r before after valid = cond (after && before) (window_of r valid) rate_fresh
