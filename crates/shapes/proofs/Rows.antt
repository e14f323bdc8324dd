-- A control block by the row of its type.
use mathlib.Core.Path.{◌≡◌, ◌∙◌, ap, subst, sym}
use mathlib.Core.List.{List}
use Prim.Native.Nat.{ℕ, ◌%◌, ◌<◌}
use Rattle.block.specs.declared.Edition.{Edition}
use Rattle.block.specs.declared.Class.{Class}
use Rattle.block.specs.Block.{Format, format_of, decoded_by, decoded, class_by, class_of}
use Rattle.block.specs.Rows.{row, row_of}
use Rattle.block.proofs.Formats.{row_format}
use Rattle.block.proofs.Classes.{class_row}

module _ (ed : Edition) where
  -- its class and vector are those of that row
  pub row_answer : (h x r : ℕ) (c : Class) (v : List ℕ) → h ≡ 1 → r ≡ row_of (x % 256) → r < 16
      → (c ≡ class_by ed (row r) x) × (v ≡ decoded_by ed (row r) x) → (c ≡ class_of ed h x) × (v ≡ decoded ed h x)
  unfolding decoded
  row_answer h x r c v e q l w =
      let f : row r ≡ format_of h x = ap row q ∙ row_format 1 x ∙ ap (λ (n : ℕ). format_of n x) (sym e) in (
        w.0
            ∙ ap (λ (n : ℕ). class_by ed (row n) x) q
            ∙ sym (class_row ed x (subst (λ (n : ℕ). n < 16) q l))
            ∙ ap (λ (n : ℕ). class_of ed n x) (sym e),
        w.1 ∙ ap (λ (g : Format). decoded_by ed g x) f,
      )
