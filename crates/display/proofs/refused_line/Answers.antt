-- `display::refused_line` meets its contract. Assumes nothing.
use Rattle.display.proofs.Loops.{refused_written}
use Rattle.display.proofs.refused_line.Goals as goal

pub returns : goal.returns
returns c = refused_written _ _ _ _ _ _ c.number.ensures.0 c.number_line.ensures.puts_text
