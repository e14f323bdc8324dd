-- Document 01, 'Diagrams', Lock.
use Rattle.std.specs.Prelude.{ℕ, ◌+◌, Bool, false, not, ◌&&◌, ◌||◌, cond, List, [], ◌∷◌, leb, eqb}
use Rattle.lock.specs.declared.Lock.{Lock}

-- "fresh: two counts at zero, not locked"
abbrev pub lock_fresh : Lock
lock_fresh = record { tested = 0; invalid = 0; locked = false }

-- what a header adds to a count of invalid ones: "also one invalid if its bits are equal"
unfoldable pub invalid_of : Bool → ℕ
invalid_of valid = cond valid 0 1

-- "At 16 invalid, or any invalid while not locked": one line bit after this block is skipped (a slip)
unfoldable pub slips_of : Lock → Bool → Bool
slips_of l valid = leb 16 (l.invalid + invalid_of valid) || (not valid && not l.locked)

-- "For each tested header count one; also one invalid if its bits are equal. .. At 64 tested: locked if none was invalid (else
-- lock stays as it was), and both counts to zero."
unfoldable pub counted_of : Lock → Bool → Lock
counted_of l valid =
    cond (leb 64 (l.tested + 1))
    (record { tested = 0; invalid = 0; locked = eqb (l.invalid + invalid_of valid) 0 || l.locked })
    (record { tested = l.tested + 1; invalid = l.invalid + invalid_of valid; locked = l.locked })

-- A slip leaves the lock as it was fresh: "not locked, both counts zero".
unfoldable pub lock_of : Lock → Bool → Lock
lock_of l valid = cond (slips_of l valid) lock_fresh (counted_of l valid)

-- this step, taken once for each header of a list
unfoldable pub lock_steps : Lock → List Bool → Lock
lock_steps l [] = l
lock_steps l (v ∷ vs) = lock_steps (lock_of l v) vs
