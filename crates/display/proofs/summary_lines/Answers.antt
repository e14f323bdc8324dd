-- `display::summary_lines` meets its contract. Assumes nothing.
use mathlib.Core.Path.{◌∙◌}
use native.Mathlib.Omega.{arith}
use Rattle.display.proofs.Loops.{bit_is, summary_written}
use Rattle.display.proofs.summary_lines.Goals as goal

pub returns : goal.returns
returns c =
    let a = c.number_line-a.ensures in
    let b = c.number_line-b.ensures in
    let d = c.number_line-c.ensures in
    let e = c.number_line.ensures in
    summary_written _ _ _ _ _ _ _ _ _ _ _ _ _ _ _ _ (c.from.ensures ∙ bit_is _) (c.from-2.ensures ∙ bit_is _)
    (omega (arith, c.requires, a.upper_bound, b.upper_bound, d.upper_bound, e.upper_bound))
    a.puts_text b.puts_text d.puts_text e.puts_text
