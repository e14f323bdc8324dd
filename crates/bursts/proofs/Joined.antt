-- The theorem of bursts, over the definitions. Assumes nothing.
use Prim.Native.Nat.{ℕ}
use mathlib.Core.Path.{◌≡◌, sym, ap, ◌∙◌}
use mathlib.Core.List.{List, [], ◌∷◌, ◌++◌, append_assoc, append-nil, flatten}
use Rattle.kept_state.specs.declared.State.{State}
use Rattle.bursts.specs.declared.Added.{Added}
use Rattle.bursts.specs.Burst.{state_fresh, burst_bytes, burst_state, close_added, close_state}
use Rattle.bursts.specs.Joined.{plus_added, added_in, state_over, bytes_over, added_over, Cut}
use Rattle.bursts.proofs.Sums.{sums, added_first, close_sums, over_sums}
use Rattle.bursts.proofs.Reached.{At, at_first, at_next, at_bytes, at_summary}

-- from a state that is reached, over bursts
at_over : (edition : ℕ) (line bytes : List ℕ) (s : State) → At edition line bytes s → (bursts : List (List ℕ))
    → At edition (line ++ flatten bursts) (bytes ++ bytes_over s bursts) (state_over s bursts)
unfolding state_over bytes_over flatten
at_over edition line bytes s a [] = rw (append-nil line, append-nil bytes) a
at_over edition line bytes s a (b ∷ bs) =
    rw (← append_assoc line b (flatten bs), ← append_assoc bytes (burst_bytes s b) (bytes_over (burst_state s b) bs))
    (at_over edition (line ++ b) (bytes ++ burst_bytes s b) (burst_state s b) (at_next edition line bytes s a b) bs)

-- what bursts and the closing call added is what the summary counts
added_all : (edition : ℕ) (bursts : List (List ℕ)) → plus_added (added_over (state_fresh edition) bursts) (close_added (state_over (state_fresh edition) bursts)) ≡ sums (close_state (state_over (state_fresh edition) bursts))
added_all edition bursts =
    let s = state_over (state_fresh edition) bursts in
    ap (λ (a : Added). plus_added a (close_added s)) (sym (added_first (added_over (state_fresh edition) bursts)) ∙ over_sums (state_fresh edition) bursts)
    ∙ sym (close_sums s)

-- however the bytes are cut
pub cut : Cut
cut edition bursts =
    let s = state_over (state_fresh edition) bursts in
    let a = at_over edition [] [] (state_fresh edition) (at_first edition) bursts in
    let z = at_summary edition (flatten bursts) (bytes_over (state_fresh edition) bursts) s a in (
      at_bytes edition (flatten bursts) (bytes_over (state_fresh edition) bursts) s a,
      z,
      added_all edition bursts ∙ ap added_in z,
    )
