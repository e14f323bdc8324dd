-- A run over a line of blocks tests one block after another, as long as no header slips. Assumes nothing.
use mathlib.Core.Path.{◌≡◌, refl, ap, ◌∙◌}
use mathlib.Core.Bool.{Bool, false}
use mathlib.Core.List.{List, [], ◌∷◌, ◌++◌, map}
use Prim.Native.Nat.{ℕ, suc}
use native.Mathlib.Omega.{arith}
use lib.ListN.{length}
use Rattle.bits.proofs.Lists.{length_listed}
use Rattle.line.specs.declared.Block.{Block}
use Rattle.line.specs.BlockNumber.{block_number}
use Rattle.lock.specs.Lock.{slips_of, lock_of}
use Rattle.lock.specs.declared.Lock.{Lock}
use Rattle.bits.specs.Lists.{how_many}
use Rattle.receiving.specs.Machine.{Tested, run, at, valid_of, link_of, tested_of}
use Rattle.receiving.specs.declared.Link.{Link}
use Rattle.receiving.proofs.Runs.{run_behind, run_fill}
use Rattle.demands.proofs.Line.{word_bits, bits_none, bits_more, bits_of_block, BlockFits, AllFit, header_back, payload_back}

-- ---- a block after another, from a link

-- the link after the blocks of a list
unfoldable pub link_after : Link → List Block → Link
link_after l [] = l
link_after l (b ∷ bs) = link_after (link_of l b.header b.payload) bs

-- the blocks of a list, as they are tested
unfoldable pub tested_all : Link → List Block → List Tested
tested_all l [] = []
tested_all l (b ∷ bs) = tested_of l b.header b.payload ∷ tested_all (link_of l b.header b.payload) bs

-- which headers are valid
unfoldable pub valids : List Block → List Bool
valids [] = []
valids (b ∷ bs) = valid_of b.header ∷ valids bs

-- no slip on the way, from a lock
abbrev pub Steady : Lock → List Bool → Type 0
Steady l [] = Unit
Steady l (v ∷ vs) = (slips_of l v ≡ false) × Steady (lock_of l v) vs

-- ---- one block, with no slip

-- the 66 bits of a block test it
one : (l : Link) (b : Block) (rest : List ℕ) → BlockFits b → slips_of l.lock (valid_of b.header) ≡ false
    → run (at l) (bits_of_block b ++ rest) ≡ run_behind (tested_of l b.header b.payload ∷ []) (run (at (link_of l b.header b.payload)) rest)
one l b rest fits calm =
    run_fill l [] (bits_of_block b) rest (rw length_listed) (rw length_listed (omega arith))
    ∙ rw (header_back b fits, payload_back b fits, calm)

-- ---- a list of blocks

-- the bits of blocks with no slip on the way test these blocks
pub run_words : (l : Link) (bs : List Block) → AllFit bs → Steady l.lock (valids bs)
    → run (at l) (word_bits (map block_number bs)) ≡ record { tested = tested_all l bs; end = at (link_after l bs) }
unfolding run tested_all link_after valids link_of
run_words l [] fits calm = rw bits_none
run_words l (b ∷ bs) fits calm =
    ap (run (at l)) (bits_more (block_number b) (map block_number bs))
    ∙ one l b (word_bits (map block_number bs)) fits.0 calm.0
    ∙ ap (run_behind (tested_of l b.header b.payload ∷ [])) (run_words (link_of l b.header b.payload) bs fits.1 calm.1)

-- one tested block for each block
pub length_tested : (l : Link) (bs : List Block) → length (tested_all l bs) ≡ length bs
unfolding tested_all
length_tested l [] = refl
length_tested l (b ∷ bs) = ap suc (length_tested (link_of l b.header b.payload) bs)

-- with no slip on the way none is counted
pub slips_none : (l : Link) (bs : List Block) → Steady l.lock (valids bs) → how_many (λ t. t.slipped) (tested_all l bs) ≡ 0
unfolding tested_all how_many tested_of valids link_of
slips_none l [] calm = refl
slips_none l (b ∷ bs) calm = rw calm.0 (omega (arith, slips_none (link_of l b.header b.payload) bs calm.1))
