-- Any two answers that meet the promise are equal. Assumes nothing.
use mathlib.Core.Path.{◌≡◌, sym, ◌∙◌}
use mathlib.Core.List.{List}
use Prim.Native.Nat.{ℕ}
use Rattle.line.specs.declared.Block.{Block}
use Rattle.blocks.specs.Blocks.{header_at, payload_at, Fours}
use Rattle.blocks.specs.declared.Four.{Four}

same : (f g : Four) → f.headers ≡ g.headers → f.a ≡ g.a → f.b ≡ g.b → f.c ≡ g.c → f.d ≡ g.d → f ≡ g
same f g u v w x y = λ i. record { headers = u i; a = v i; b = w i; c = x i; d = y i }

pub four_at_unique : (line : List ℕ) (pos : ℕ) (f g : Four) → Fours line pos f → Fours line pos g → f ≡ g
four_at_unique line pos f g p q =
    same f g (p.headers ∙ sym q.headers) (p.a ∙ sym q.a) (p.b ∙ sym q.b) (p.c ∙ sym q.c) (p.d ∙ sym q.d)

pub one_at_unique : (line : List ℕ) (pos : ℕ) (r s : Block) → (r.header ≡ header_at line pos) × (r.payload ≡ payload_at line pos)
    → (s.header ≡ header_at line pos) × (s.payload ≡ payload_at line pos) → r ≡ s
one_at_unique line pos r s p q = same_block r s (p.0 ∙ sym q.0) (p.1 ∙ sym q.1)
  where
    same_block : (a b : Block) → a.header ≡ b.header → a.payload ≡ b.payload → a ≡ b
    same_block a b u v = λ i. record { header = u i; payload = v i }
