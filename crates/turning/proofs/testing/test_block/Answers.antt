-- `turning::testing::test_block` meets its contract. Assumes nothing.
use mathlib.Core.Path.{◌≡◌, sym, ap, ◌∙◌}
use mathlib.Core.Bool.{Bool, not, ◌&&◌}
use Rattle.receiving.specs.Machine.{link_of, tested_of}
use Rattle.receiving.specs.Loop.{tested_in}
use Rattle.turning.proofs.testing.test_block.Goals as goal
use Rattle.turning.proofs.testing.test_block.Goals.{then-lock, else-lock}

pub returns : goal.returns
unfolding link_of tested_of tested_in
returns c =
    let valid = c.valid_header-valid in
    let locking = c.lock_step-locking in
    let rate = c.rate_step-rate in
    let plain = c.descramble-plain in
    let block = c.decode-block in
    let on : c.if-lock.result ≡ locking.result.lock.locked && not rate.result.high =
    elim c.if-lock.branch [
      | then-lock w ↦ w.result-is ∙ sym (ap (λ (b : Bool). b && not rate.result.high) w.if-lock.true)
      | else-lock w ↦ w.result-is ∙ w.if-lock.false ∙ sym (ap (λ (b : Bool). b && not rate.result.high) w.if-lock.false)
    ] in (
      rw (← valid.ensures, ← locking.ensures.0, ← rate.ensures, ← plain.ensures.1),
      rw (
        ← valid.ensures,
        ← locking.ensures.0,
        ← rate.ensures,
        ← locking.ensures.1,
        ← plain.ensures.0,
        ← block.ensures.0,
        ← block.ensures.1,
        ← on,
      ),
    )
