-- The lock's steps over headers, each by whether it is valid: the definition on examples, by computation.
use mathlib.Core.Path.{◌≡◌, refl}
use mathlib.Core.Bool.{true, false}
use mathlib.Core.List.{[], ◌∷◌, ◌++◌}
use lib.ListN.{replicate}
use Rattle.lock.specs.Lock.{lock_fresh, lock_of, slips_of, counted_of, invalid_of, lock_steps}
use Rattle.lock.specs.declared.Lock.{Lock}

-- 64 valid headers lock, and 63 do not; nor do 64 with an invalid one, which slips
lock_cases : ((lock_steps lock_fresh (replicate 64 true)).locked ≡ true)
    × ((lock_steps lock_fresh (replicate 63 true)).locked ≡ false)
    × (lock_steps lock_fresh (replicate 63 true ++ false ∷ []) ≡ lock_fresh)
    × (slips_of (lock_steps lock_fresh (replicate 63 true)) false ≡ true)
unfolding lock_steps lock_of slips_of counted_of invalid_of
lock_cases = (refl, refl, refl, refl)

-- in lock, 15 invalid headers of 64 stay, and the 16th slips
locked : Lock
locked = record { tested = 0; invalid = 0; locked = true }

-- from that lock
stay_cases : (lock_steps locked (replicate 15 false ++ replicate 49 true) ≡ locked)
    × (lock_steps locked (replicate 16 false) ≡ lock_fresh)
    × (slips_of (lock_steps locked (replicate 15 false)) false ≡ true)
unfolding locked lock_steps lock_of slips_of counted_of invalid_of
stay_cases = (refl, refl, refl)
