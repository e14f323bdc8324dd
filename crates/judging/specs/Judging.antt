-- Document 02, 2/13 and 9/13: refusals 13, 9, 10, 1, 4, in this order.
use Rattle.std.specs.Prelude.{ℕ, ◌+◌, ◌*◌, ◌/◌, List, [], ◌∷◌, ltb}
use Rattle.refusals.specs.First.{Check, check, Verdict, first}
use Rattle.block.specs.Block.{edition_check}
use Rattle.kept_state.specs.declared.State.{State}
use Rattle.bad_states.specs.BadStates.{bad_state}

-- "10 x (floor(carried and new bits / 66) + 1)", for so many new line bytes
abbrev pub room_for : State → ℕ → ℕ
room_for s line = 10 * ((s.carried.count + 8 * line) / 66 + 1)

-- "13, edition unknown, checked before all others, 9 included"; "9, any call after the closing one, checked first; 10, checked next, .. then
-- 1 and 4"; "the length limit applies to the sum". The closing call has no line bytes.
unfoldable pub burst_checks : State → (line room : ℕ) → List Check
burst_checks s line room =
    edition_check s.edition ∷ check 9 s.closed ∷ check 10 (bad_state s) ∷ check 1 (ltb 825000 (s.bytes + line)) ∷ check 4 (ltb room (room_for s line))
    ∷ []

unfoldable pub burst_verdict : State → (line room : ℕ) → Verdict
burst_verdict s line room = first (burst_checks s line room)
