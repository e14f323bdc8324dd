-- `input::gathered` meets its contract. Assumes nothing.
use mathlib.Core.Path.{refl, ap, ◌∙◌}
use Rattle.std.specs.Prelude.{Ok}
use Rattle.std.proofs.lemmas.Result.{err_from_is_err_and}
use Rattle.input.proofs.Turns.{turn_first, no_more, none_after, turn_last, turn_more}
use Rattle.input.proofs.gathered.Goals as goal

pub loop-init : goal.loop-init
loop-init g c = (refl, turn_first _ _)

pub returns-in_err-done : goal.returns-in_err-done
returns-in_err-done g c =
    let p = err_from_is_err_and c.from_residual.result c.from_residual.ensures.1 in
    rw (p.1, p.2)
    (turn_last _ _ _ _ _ _ _ c.read_window-read.result c.read_window-read.new.window c.loop.invariant.1 c.read_window-read.ensures.window c.in_err-done.ensures
    (none_after c.in_err-done.field-0.0))

pub returns-in_default : goal.returns-in_default
returns-in_default g c =
    turn_last _ _ _ _ _ _ _ c.read_window-read.result c.read_window-read.new.window c.loop.invariant.1 c.read_window-read.ensures.window c.in_ok-done.ensures
    (no_more c.in_ok-done.done c.in_default.not-More)

pub loop-preserved : goal.loop-preserved
loop-preserved g c = (
  c.read_window-read.auto.window ∙ c.loop.invariant.0,
  turn_more _ _ _ _ _ _ _ c.read_window-read.result c.read_window-read.new.window c.loop.invariant.1 c.read_window-read.ensures.window
      c.in_ok-done.ensures _ (ap Ok c.in-More.is),
)
