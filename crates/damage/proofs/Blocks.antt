-- The blocks of a damaged line: each block of the line with its own flips.
use mathlib.Core.Path.{◌≡◌, refl, sym, ap, ap₂, ◌∙◌}
use mathlib.Core.List.{List, [], ◌∷◌, map}
use Prim.Native.Nat.{ℕ, zero, suc, ◌+◌, ◌-◌, ◌*◌, ◌/◌, ◌%◌, ◌^◌, ◌<◌}
use native.Mathlib.Omega.{arith}
use lib.ListN.{length, get_or}
use Rattle.bits.specs.Bits.{bit, number, stream_bit, cut, line_bit}
use Rattle.bits.proofs.Laws.{bit_above, bit_below, by_lt, bit_number, number_lt, number_same, stream_lt, stream_cut, length_cut, cut_same}
use Rattle.register.specs.Register.{flip}
use Rattle.line.specs.declared.Block.{Block}
use Rattle.line.specs.BlockNumber.{block_number}
use Rattle.demands.proofs.Line.{BlockFits, AllFit}
use Rattle.damage.specs.Damage.{damaged, payload_bit}

-- a flipped bit is a bit
flip_lt : (y f : ℕ → ℕ) (n : ℕ) → flip y f n < 2
unfolding flip
flip_lt y f n = omega arith

-- a block whose flips begin at flip 0
abbrev pub flipped_block : (ℕ → ℕ) → Block → Block
flipped_block f b = record { header = number 2 (flip (bit b.header) f); payload = number 64 (flip (bit b.payload) (λ i. f (2 + i))) }

-- blocks one after another, whose flips begin at flip 0
unfoldable pub flipped_blocks : (ℕ → ℕ) → List Block → List Block
flipped_blocks f [] = []
flipped_blocks f (b ∷ bs) = flipped_block f b ∷ flipped_blocks (λ n. f (66 + n)) bs

-- the payloads of some blocks
abbrev pub payloads : List Block → List ℕ
payloads bs = map (λ (b : Block). b.payload) bs

-- there are as many
pub flipped_length : (f : ℕ → ℕ) (bs : List Block) → length (flipped_blocks f bs) ≡ length bs
unfolding flipped_blocks
flipped_length f [] = refl
flipped_length f (b ∷ bs) = ap suc (flipped_length (λ n. f (66 + n)) bs)

-- the same flips give the same block
same_flips : (f g : ℕ → ℕ) (b : Block) → ((i : ℕ) → f i ≡ g i) → flipped_block f b ≡ flipped_block g b
unfolding flip
same_flips f g b e =
    ap₂ (λ (h p : ℕ). record { header = h; payload = p })
    (number_same 2 (flip (bit b.header) f) (flip (bit b.header) g) (λ i l. ap (λ (x : ℕ). (bit b.header i + x) % 2) (e i)))
    (number_same 64 (flip (bit b.payload) (λ i. f (2 + i))) (flip (bit b.payload) (λ i. g (2 + i))) (λ i l. ap (λ (x : ℕ). (bit b.payload i + x) % 2) (e (2 + i))))

-- block k has the flips from line bit 66 k on
pub flipped_at : (f : ℕ → ℕ) (bs : List Block) (z : Block) (k : ℕ) → k < length bs
    → get_or (flipped_blocks f bs) k z ≡ flipped_block (λ i. f (66 * k + i)) (get_or bs k z)
unfolding flipped_blocks
flipped_at f [] z k l = absurd (omega arith)
flipped_at f (b ∷ bs) z zero l =
    let e : (i : ℕ) → i ≡ 66 * 0 + i = λ i. omega arith in
    same_flips f (λ i. f (66 * 0 + i)) b (λ i. ap f (e i))
flipped_at f (b ∷ bs) z (suc k) l =
    let e : (i : ℕ) → 66 + (66 * k + i) ≡ 66 * suc k + i = λ i. omega arith in
    flipped_at (λ n. f (66 + n)) bs z k (omega arith)
    ∙ same_flips (λ i. f (66 + (66 * k + i))) (λ i. f (66 * suc k + i)) (get_or bs k z) (λ i. ap f (e i))

-- ---- the bits of a block

-- a header of two bits and a payload of 64
pub flipped_fits : (f : ℕ → ℕ) (bs : List Block) → AllFit (flipped_blocks f bs)
unfolding flipped_blocks
flipped_fits f [] = tt
flipped_fits f (b ∷ bs) = (
  (
    number_lt 2 (flip (bit b.header) f) (λ i l. flip_lt (bit b.header) f i),
    number_lt 64 (flip (bit b.payload) (λ i. f (2 + i))) (λ i l. flip_lt (bit b.payload) (λ i. f (2 + i)) i),
  ),
  flipped_fits (λ n. f (66 + n)) bs,
)

module _ (b : Block) (fits : b.header < 4) where
  -- the word in its two parts
  parts : block_number b ≡ b.payload * 2 ^ 2 + b.header
  parts = omega arith

  -- its first two bits are the header
  word_header : (i : ℕ) → i < 2 → bit (block_number b) i ≡ bit b.header i
  word_header i l = ap (λ (x : ℕ). bit x i) parts ∙ bit_below b.payload 2 b.header i l

  -- and the rest the payload
  word_payload : (i : ℕ) → bit (block_number b) (2 + i) ≡ bit b.payload i
  word_payload i = ap (λ (x : ℕ). bit x (2 + i)) parts ∙ bit_above b.payload 2 b.header i fits

module _ (f : ℕ → ℕ) (b : Block) where
  -- the bits of the header, of the payload and of the word are flipped
  flipped_header : (i : ℕ) → i < 2 → bit (flipped_block f b).header i ≡ flip (bit b.header) f i
  flipped_header i l = bit_number 2 (flip (bit b.header) f) (λ i l. flip_lt (bit b.header) f i) i l

  flipped_payload : (i : ℕ) → i < 64 → bit (flipped_block f b).payload i ≡ flip (bit b.payload) (λ i. f (2 + i)) i
  flipped_payload i l =
      bit_number 64 (flip (bit b.payload) (λ i. f (2 + i))) (λ i l. flip_lt (bit b.payload) (λ i. f (2 + i)) i) i l

  flipped_word : BlockFits b → (i : ℕ) → i < 66 → bit (block_number (flipped_block f b)) i ≡ flip (bit (block_number b)) f i
  unfolding flip
  flipped_word fits i l =
      by_lt i 2
      (λ m.
      word_header (flipped_block f b) small i m ∙ flipped_header i m
      ∙ ap (λ (x : ℕ). (x + f i) % 2) (sym (word_header b fits.0 i m)))
      (λ m.
      let e : i ≡ 2 + (i - 2) = omega arith in
      ap (bit (block_number (flipped_block f b))) e ∙ word_payload (flipped_block f b) small (i - 2) ∙ flipped_payload (i - 2) (omega arith)
      ∙ ap (λ (x : ℕ). (x + f (2 + (i - 2))) % 2) (sym (word_payload b fits.0 (i - 2)))
      ∙ ap (flip (bit (block_number b)) f) (sym e))
    where
      small : (flipped_block f b).header < 4
      small = number_lt 2 (flip (bit b.header) f) (λ i l. flip_lt (bit b.header) f i)

-- ---- the streams of the line's bits and of its payload bits

-- a number of block k
pub map_at : (g : Block → ℕ) (bs : List Block) (z : Block) (k : ℕ) → k < length bs → get_or (map g bs) k 0 ≡ g (get_or bs k z)
map_at g [] z k l = absurd (omega arith)
map_at g (b ∷ bs) z zero l = refl
map_at g (b ∷ bs) z (suc k) l = map_at g bs z k (omega arith)

-- block k of blocks that fit
fits_at : (bs : List Block) (z : Block) → AllFit bs → (k : ℕ) → k < length bs → BlockFits (get_or bs k z)
fits_at [] z fits k l = absurd (omega arith)
fits_at (b ∷ bs) z fits zero l = fits.0
fits_at (b ∷ bs) z fits (suc k) l = fits_at bs z fits.1 k (omega arith)

-- what stands for block k where there is none
abbrev none : Block
none = record { header = 0; payload = 0 }

-- a number of block k of the damaged line
flipped_map : (g : Block → ℕ) (f : ℕ → ℕ) (bs : List Block) (k : ℕ) → k < length bs
    → get_or (map g (flipped_blocks f bs)) k 0 ≡ g (flipped_block (λ i. f (66 * k + i)) (get_or bs k none))
flipped_map g f bs k l = map_at g (flipped_blocks f bs) none k (omega (arith, flipped_length f bs)) ∙ ap g (flipped_at f bs none k l)

-- the line bits of the blocks are flipped
flipped_words : (f : ℕ → ℕ) (bs : List Block) → AllFit bs → (n : ℕ) → n < 66 * length bs
    → stream_bit 66 (map block_number (flipped_blocks f bs)) n ≡ flip (stream_bit 66 (map block_number bs)) f n
unfolding stream_bit flip
flipped_words f bs fits n l =
    let m : n / 66 < length bs = omega arith in
    let e : 66 * (n / 66) + n % 66 ≡ n = omega arith in
    ap (λ (x : ℕ). bit x (n % 66)) (flipped_map block_number f bs (n / 66) m)
    ∙ flipped_word (λ i. f (66 * (n / 66) + i)) (get_or bs (n / 66) none) (fits_at bs none fits (n / 66) m) (n % 66) (omega arith)
    ∙ ap₂ (λ (x y : ℕ). (bit x (n % 66) + f y) % 2) (sym (map_at block_number bs none (n / 66) m)) e

-- their payload bits are flipped where the payload bits of the line are
pub flipped_payloads : (f : ℕ → ℕ) (bs : List Block) (n : ℕ) → n < 64 * length bs
    → stream_bit 64 (payloads (flipped_blocks f bs)) n ≡ flip (stream_bit 64 (payloads bs)) (payload_bit f) n
unfolding stream_bit flip
flipped_payloads f bs n l =
    let m : n / 64 < length bs = omega arith in
    let e : 66 * (n / 64) + (2 + n % 64) ≡ 66 * (n / 64) + 2 + n % 64 = omega arith in
    ap (λ (x : ℕ). bit x (n % 64)) (flipped_map (λ (b : Block). b.payload) f bs (n / 64) m)
    ∙ flipped_payload (λ i. f (66 * (n / 64) + i)) (get_or bs (n / 64) none) (n % 64) (omega arith)
    ∙ ap₂ (λ (x y : ℕ). (bit x (n % 64) + f y) % 2) (sym (map_at (λ (b : Block). b.payload) bs none (n / 64) m)) e

-- a damaged line is the line of its blocks with their flips
pub damaged_line : (f : ℕ → ℕ) (bs : List Block) (groups : ℕ) → AllFit bs → length bs ≡ 4 * groups
    → damaged (cut 8 (stream_bit 66 (map block_number bs)) (33 * groups)) f ≡ cut 8 (stream_bit 66 (map block_number (flipped_blocks f bs))) (33 * groups)
unfolding damaged flip line_bit
damaged_line f bs groups fits e =
    let line = cut 8 (stream_bit 66 (map block_number bs)) (33 * groups) in
    ap (cut 8 (flip (line_bit line) f)) (length_cut 8 (33 * groups) (stream_bit 66 (map block_number bs)))
    ∙ cut_same 8 (33 * groups) (flip (line_bit line) f) (stream_bit 66 (map block_number (flipped_blocks f bs)))
    (λ n l.
    ap (λ (x : ℕ). (x + f n) % 2) (stream_cut 8 (omega arith) (33 * groups) (stream_bit 66 (map block_number bs)) (stream_lt 66 (map block_number bs)) n l)
    ∙ sym (flipped_words f bs fits n (omega arith)))
