-- Any two answers, and any two contents of the lent room, that meet a function's promise are equal. Assumes nothing.
use mathlib.Core.Path.{◌≡◌, sym, ◌∙◌}
use mathlib.Core.List.{List, [], ◌∷◌, ◌++◌}
use Prim.Native.Nat.{ℕ, ◌+◌, ◌*◌, ◌<◌}
use lib.ListN.{take, drop}
use Rattle.bits.specs.Bits.{bit, number, line_bit, stream_bit, cut}
use Rattle.line.specs.BlockNumber.{block_number}
use Rattle.line.specs.declared.Block.{Block}

pub load_half_unique : (line : List ℕ) (at r s : ℕ) → (r ≡ number 32 (λ i. line_bit line (8 * at + i))) × (r < 4294967296)
    → (s ≡ number 32 (λ i. line_bit line (8 * at + i))) × (s < 4294967296) → r ≡ s
load_half_unique line at r s p q = p.0 ∙ sym q.0

pub load_unique : (line : List ℕ) (at r s : ℕ) → r ≡ number 64 (λ i. line_bit line (8 * at + i)) → s ≡ number 64 (λ i. line_bit line (8 * at + i)) → r ≡ s
load_unique line at r s p q = p ∙ sym q

pub bits_at_unique : (line : List ℕ) (pos r s : ℕ) → r ≡ number 64 (λ i. line_bit line (pos + i)) → s ≡ number 64 (λ i. line_bit line (pos + i)) → r ≡ s
bits_at_unique line pos r s p q = p ∙ sym q

pub header_at_unique : (line : List ℕ) (pos r s : ℕ) → r ≡ number 2 (λ i. line_bit line (pos + i)) → s ≡ number 2 (λ i. line_bit line (pos + i)) → r ≡ s
header_at_unique line pos r s p q = p ∙ sym q

pub store_unique : (room : List ℕ) (at w : ℕ) (after after' : List ℕ)
    → after ≡ take at room ++ cut 8 (bit w) 8 ++ drop (at + 8) room
    → after' ≡ take at room ++ cut 8 (bit w) 8 ++ drop (at + 8) room → after ≡ after'
store_unique room at w after after' p q = p ∙ sym q

pub store_half_unique : (room : List ℕ) (at w : ℕ) (after after' : List ℕ)
    → after ≡ take at room ++ cut 8 (bit w) 4 ++ drop (at + 4) room
    → after' ≡ take at room ++ cut 8 (bit w) 4 ++ drop (at + 4) room → after ≡ after'
store_half_unique room at w after after' p q = p ∙ sym q

pub put_group_unique : (room : List ℕ) (at : ℕ) (a b c d : Block) (after after' : List ℕ)
    → after ≡ take at room ++ cut 8 (stream_bit 66 (block_number a ∷ block_number b ∷ block_number c ∷ block_number d ∷ [])) 33 ++ drop (at + 33) room
    → after' ≡ take at room ++ cut 8 (stream_bit 66 (block_number a ∷ block_number b ∷ block_number c ∷ block_number d ∷ [])) 33 ++ drop (at + 33) room → after ≡ after'
put_group_unique room at a b c d after after' p q = p ∙ sym q
