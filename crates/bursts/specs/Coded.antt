-- A reviewer can skip this file. What an accepted call begins with.
use Rattle.std.specs.Prelude.{ℕ, ◌≡◌}
use Rattle.refusals.specs.First.{accepted}
use Rattle.receiving.specs.declared.Receiver.{Receiver}
use Rattle.kept_state.specs.declared.State.{State}
use Rattle.kept_state.specs.Coded.{Means}
use Rattle.judging.specs.Judging.{burst_verdict}

-- the checks accept a call of so many line bytes with so much room, and a receiver is what its state means
pub record AcceptedFrom (s : State) (line room : ℕ) (r : Receiver) : Type 0 where
  pub passes : burst_verdict s line room ≡ accepted
  pub means : Means s r
