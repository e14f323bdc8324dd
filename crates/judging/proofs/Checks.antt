-- The five checks of a call in turn, and what a call that passes has. Assumes nothing.
use Prim.Native.Nat.{ℕ, ◌+◌, ◌≤◌, ◌<◌}
use mathlib.Core.Path.{◌≡◌}
use mathlib.Core.Bool.{false}
use borrow.Author.Tests.{ltb-false, le-ltb}
use Rattle.refusals.specs.First.{first, accepted}
use Rattle.refusals.proofs.Laws.{passed}
use Rattle.kept_state.specs.declared.State.{State}
use Rattle.bad_states.specs.BadStates.{bad_state}
use Rattle.judging.specs.Judging.{room_for, burst_checks, burst_verdict}
use Rattle.bad_states.proofs.Limits.{within_limits}

-- a call that none of them applies to
pub record Passed (s : State) (line room : ℕ) : Type 0 where
  pub known : s.edition ≤ 1
  pub unclosed : s.closed ≡ false
  pub good : bad_state s ≡ false
  pub sum : s.bytes + line ≤ 825000
  pub fits : room_for s line ≤ room

pub passed_all : (s : State) (line room : ℕ) → burst_verdict s line room ≡ accepted → Passed s line room
unfolding burst_verdict burst_checks
passed_all s line room e =
    let z = passed _ _ e in
    let a = passed _ _ z.1 in
    let b = passed _ _ a.1 in
    let c = passed _ _ b.1 in
    let d = passed _ _ c.1 in
    record {
      known = ltb-false 1 s.edition z.0;
      unclosed = a.0;
      good = b.0;
      sum = ltb-false 825000 (s.bytes + line) c.0;
      fits = ltb-false room (room_for s line) d.0;
    }

pub all_passed : (s : State) (line room : ℕ) → Passed s line room → burst_verdict s line room ≡ accepted
unfolding burst_verdict burst_checks first
all_passed s line room p =
    rw (le-ltb 1 s.edition p.known, p.good, le-ltb 825000 (s.bytes + line) p.sum, le-ltb room (room_for s line) p.fits, p.unclosed)

-- what a state that is none of those of refusal 10 has
pub few_bytes : (s : State) → bad_state s ≡ false → s.bytes ≤ 825000
few_bytes s good = (within_limits s good).bytes

pub few_carried : (s : State) → bad_state s ≡ false → s.carried.count < 66
few_carried s good = (within_limits s good).carried
