-- `characters::four` meets its contract: four characters.
use mathlib.Core.Path.{◌≡◌, ◌∙◌, ap, ap₂, sym}
use Prim.Native.Nat.{ℕ, ◌/◌, ◌%◌, ◌^◌}
use native.Mathlib.Nat.{div-one}
use Rattle.block.specs.declared.Edition.{Edition}
use Rattle.block.specs.Block.{octet_of}
use Rattle.block.specs.Rows.{width}
use Rattle.characters.specs.Octets.{slot_at, octet_from, read_as, joined}
use Rattle.characters.proofs.four.Goals as goal

-- the first place and slot stand in the lowest bits
first : (ed : Edition) (places slots x : ℕ) → octet_of ed (slot_at (slots % 8)) (x / 2 ^ (places % 64) % 2 ^ width (slot_at (slots % 8))) ≡ octet_from ed places slots x 0
first ed places slots x =
    ap₂ (λ (m n : ℕ). octet_of ed (slot_at (n % 8)) (x / 2 ^ (m % 64) % 2 ^ width (slot_at (n % 8)))) (sym (div-one places)) (sym (div-one slots))

pub returns : goal.returns
returns c =
    let a = c.character-a.ensures ∙ ap read_as (first c.args.edition c.args.places c.args.slots c.args.x) in
    c.joined.ensures ∙ (λ i. joined (a i) (c.character-b.ensures i) (c.character-c.ensures i) (c.character-d.ensures i))
