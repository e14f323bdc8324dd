-- `display::input_failed_line` meets its contract. Assumes nothing.
use Rattle.display.specs.Display.{input_failed_line}
use Rattle.display.proofs.input_failed_line.Goals as goal

pub returns : goal.returns
unfolding input_failed_line
returns c = c.text.ensures
