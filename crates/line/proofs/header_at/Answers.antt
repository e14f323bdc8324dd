-- `line::header_at` meets its contract. Assumes nothing.
use mathlib.Core.Path.{refl, ap, ◌∙◌}
use Prim.Native.Nat.{ℕ, ◌/◌, ◌%◌, ◌^◌}
use Rattle.line.proofs.Laws.{header_bits}
use Rattle.line.proofs.header_at.Goals as goal

pub returns : goal.returns
returns c =
    let a = c.args in
    c.from.ensures ∙ ap (λ (n : ℕ). n / 2 ^ (a.pos % 8) % 4) c.from_le_bytes-two.ensures
    ∙ header_bits a.s.now (λ i. (c.type_inv.s i).fits) (a.pos / 8) a.pos _ _ refl refl refl
