-- The bits of a line of blocks, and a block's header and payload back from its bits. Assumes nothing.
use mathlib.Core.Path.{◌≡◌, refl, sym, ap, ap₂, ◌∙◌}
use mathlib.Core.List.{List, [], ◌∷◌, ◌++◌}
use Prim.Native.Nat.{ℕ, suc, ◌+◌, ◌*◌, ◌^◌, ◌<◌}
use native.Mathlib.Omega.{arith}
use lib.ListN.{length, get_or}
use Rattle.bits.specs.Bits.{bit, stream_bit, cut, listed, line_bits}
use Rattle.bits.proofs.Laws.{bit_below, bit_above, is_number, number_same, stream_lt, stream_head, stream_tail}
use Rattle.bits.proofs.Lists.{listed_at, listed_same, listed_add, line_bits_cut}
use Rattle.line.specs.declared.Block.{Block}
use Rattle.line.specs.BlockNumber.{block_number}
use Rattle.receiving.specs.Machine.{header_of, payload_of}

-- ---- the bits of 66-bit words, one word after another

-- the bits of a list of words
unfoldable pub word_bits : List ℕ → List ℕ
word_bits ws = listed (66 * length ws) (stream_bit 66 ws)

-- no words, no bits
pub bits_none : word_bits [] ≡ []
unfolding word_bits listed
bits_none = refl

-- the bits of a word, then those of the rest
pub bits_more : (w : ℕ) (ws : List ℕ) → word_bits (w ∷ ws) ≡ listed 66 (bit w) ++ word_bits ws
unfolding word_bits
bits_more w ws =
    let e : 66 * suc (length ws) ≡ 66 + 66 * length ws = omega arith in
    ap (λ (n : ℕ). listed n (stream_bit 66 (w ∷ ws))) e
    ∙ listed_add 66 (66 * length ws) (stream_bit 66 (w ∷ ws))
    ∙ ap₂ ◌++◌
    (listed_same 66 (stream_bit 66 (w ∷ ws)) (bit w) (λ i l. stream_head 66 w ws i l))
    (listed_same (66 * length ws) (λ i. stream_bit 66 (w ∷ ws) (66 + i)) (stream_bit 66 ws) (λ i l. stream_tail 66 w ws i (omega arith)))

-- four words make 33 line bytes, whose bits are the words' bits in order
pub line_bits_lem : (ws : List ℕ) (groups : ℕ) → length ws ≡ 4 * groups → line_bits (cut 8 (stream_bit 66 ws) (33 * groups)) ≡ word_bits ws
unfolding word_bits
line_bits_lem ws groups e =
    let n : 8 * (33 * groups) ≡ 66 * length ws = omega arith in
    line_bits_cut (33 * groups) (stream_bit 66 ws) (stream_lt 66 ws) ∙ ap (λ (k : ℕ). listed k (stream_bit 66 ws)) n

-- ---- one block

-- a header of two bits and a payload of 64
abbrev pub BlockFits : Block → Type 0
BlockFits b = (b.header < 4) × (b.payload < 2 ^ 64)

-- each block of a list
abbrev pub AllFit : List Block → Type 0
AllFit [] = Unit
AllFit (b ∷ bs) = BlockFits b × AllFit bs

-- the bits of a block
abbrev pub bits_of_block : Block → List ℕ
bits_of_block b = listed 66 (bit (block_number b))

module _ (b : Block) (fits : BlockFits b) where
  -- the payload stands above the header
  whole : block_number b ≡ b.payload * 2 ^ 2 + b.header
  whole = omega arith

  -- the header back from the bits
  pub header_back : header_of (bits_of_block b) ≡ b.header
  header_back =
      number_same 2 (λ i. get_or (bits_of_block b) i 0) (bit b.header)
      (λ i l. listed_at 66 (bit (block_number b)) i (omega arith) ∙ ap (λ (x : ℕ). bit x i) whole ∙ bit_below b.payload 2 b.header i l)
      ∙ sym (is_number 2 b.header (bit b.header) (omega arith) (λ i l. refl))

  -- the payload back from the bits
  pub payload_back : payload_of (bits_of_block b) ≡ b.payload
  payload_back =
      number_same 64 (λ i. get_or (bits_of_block b) (2 + i) 0) (bit b.payload)
      (λ i l.
      listed_at 66 (bit (block_number b)) (2 + i) (omega arith) ∙ ap (λ (x : ℕ). bit x (2 + i)) whole
      ∙ bit_above b.payload 2 b.header i (omega arith))
      ∙ sym (is_number 64 b.payload (bit b.payload) (omega arith) (λ i l. refl))
