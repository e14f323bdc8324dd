-- Each promise of this crate has one answer, and one content of the output: its text settles both.
use Prim.Native.Nat.{ℕ}
use mathlib.Core.Path.{◌≡◌}
use mathlib.Core.Bool.{Bool}
use mathlib.Core.List.{List}
use Rattle.refusals.specs.Number.{number_of}
use Rattle.refusals.specs.declared.Refusal.{Refusal}
use Rattle.putting.specs.Overlaid.{PutsText}
use Rattle.putting.proofs.Unique.{puts_unique}
use Rattle.display.specs.Display.{hex_lines, summary_lines, refused_line, input_failed_line, line_records}

module _ (at : ℕ) (entry : List ℕ) (r r' : ℕ) (exit exit' : List ℕ) where
  abbrev One : List ℕ → Type 0
  One text = PutsText at text entry r exit → PutsText at text entry r' exit' → (r ≡ r') × (exit ≡ exit')

  pub hex_lines_unique : (vectors : List ℕ) → One (hex_lines vectors)
  hex_lines_unique vectors = puts_unique at (hex_lines vectors) entry r r' exit exit'

  pub summary_lines_unique : (tested slips : ℕ) (locked high : Bool) → One (summary_lines tested slips locked high)
  summary_lines_unique tested slips locked high = puts_unique at (summary_lines tested slips locked high) entry r r' exit exit'

  pub refused_line_unique : (why : Refusal) → One (refused_line (number_of why))
  refused_line_unique why = puts_unique at (refused_line (number_of why)) entry r r' exit exit'

  pub input_failed_line_unique : One input_failed_line
  input_failed_line_unique = puts_unique at input_failed_line entry r r' exit exit'

  pub line_records_unique : (line : List ℕ) → One (line_records 4092 line)
  line_records_unique line = puts_unique at (line_records 4092 line) entry r r' exit exit'
