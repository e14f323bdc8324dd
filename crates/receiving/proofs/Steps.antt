-- "The count of tested headers equals the number of lock steps in the definition." Assumes nothing.
use mathlib.Core.Path.{◌≡◌, refl, sym, ap, ap₂, ◌∙◌}
use mathlib.Core.Bool.{Bool, true, false}
use mathlib.Core.List.{List, [], ◌∷◌, ◌++◌}
use Prim.Native.Nat.{ℕ, ◌+◌}
use lib.ListN.{length, length-append}
use Rattle.bits.specs.Bits.{line_bits}
use Rattle.block.specs.declared.Edition.{Edition}
use Rattle.lock.specs.Lock.{lock_fresh, lock_of, lock_steps}
use Rattle.lock.specs.declared.Lock.{Lock}
use Rattle.receiving.specs.Machine.{Feed, at, fills, feed, filled, run, link_of, link_fresh}
use Rattle.receiving.specs.Steps.{valid_header, valid_headers}
use Rattle.receiving.specs.Receive.{run_of}

-- steps over joined lists
steps_append : (l : Lock) (a b : List Bool) → lock_steps l (a ++ b) ≡ lock_steps (lock_steps l a) b
unfolding lock_steps
steps_append l [] b = refl
steps_append l (v ∷ a) b = steps_append (lock_of l v) a b

-- one bit tests as many blocks as the lock takes steps: one or none
one_bit : (f : Feed) (b : ℕ) (s g : Bool) → f.skip ≡ s → fills f ≡ g
    → (lock_steps f.link.lock (valid_header f b) ≡ (feed f b).link.lock) × (length (filled f b) ≡ length (valid_header f b))
unfolding lock_steps feed filled valid_header link_of
one_bit f b true g es eg = (rw es, rw es)
one_bit f b false true es eg = (rw (es, eg), rw (es, eg))
one_bit f b false false es eg = (rw (es, eg), rw (es, eg))

-- as many blocks are tested as the lock takes steps, and these steps give the lock at the end
pub steps : (f : Feed) (bits : List ℕ)
    → (lock_steps f.link.lock (valid_headers f bits) ≡ (run f bits).end.link.lock) × (length (run f bits).tested ≡ length (valid_headers f bits))
unfolding run lock_steps valid_headers
steps f [] = (refl, refl)
steps f (b ∷ bits) =
    let one = one_bit f b f.skip (fills f) refl refl in
    let rest = steps (feed f b) bits in (
      steps_append f.link.lock (valid_header f b) (valid_headers (feed f b) bits)
          ∙ ap (λ (l : Lock). lock_steps l (valid_headers (feed f b) bits)) one.0
          ∙ rest.0,
      length-append (filled f b) (run (feed f b) bits).tested
          ∙ ap₂ ◌+◌ one.1 rest.1
          ∙ sym (length-append (valid_header f b) (valid_headers (feed f b) bits)),
    )

-- of a whole line, from the fresh lock: `tested` is the number of lock steps
pub lock_steps_lem : (ed : Edition) (line : List ℕ)
    → (lock_steps lock_fresh (valid_headers (at (link_fresh ed)) (line_bits line)) ≡ (run_of ed line).end.link.lock)
    × (length (run_of ed line).tested ≡ length (valid_headers (at (link_fresh ed)) (line_bits line)))
unfolding run_of
lock_steps_lem ed line = steps (at (link_fresh ed)) (line_bits line)
