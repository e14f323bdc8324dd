-- What a receiver reads of a line of blocks: each payload descrambled. Assumes nothing.
use mathlib.Core.Path.{◌≡◌, refl, ap, ap₂, ◌∙◌}
use mathlib.Core.Bool.{Bool}
use mathlib.Core.List.{List, [], ◌∷◌, map}
use Prim.Native.Nat.{ℕ, suc, ◌^◌, ◌<◌}
use lib.ListN.{length}
use Rattle.scrambler.specs.Scrambler.{scrambled, history_after, descrambled, line_after, descrambled_all}
use Rattle.scrambler.proofs.Laws.{scrambled_lt, descrambled_scrambled, line_scrambled, line_after_forget}
use Rattle.line.specs.declared.Block.{Block}
use Rattle.line.specs.BlockNumber.{block_number}
use Rattle.block.specs.declared.Edition.{Edition}
use Rattle.block.specs.Block.{kind_of, decoded, kind_in}
use Rattle.transmit.specs.Send.{scrambled_block, line_words}
use Rattle.receiving.specs.Machine.{Tested, valid_of, link_of, tested_of}
use Rattle.receiving.specs.declared.Link.{Link}
use Rattle.receiving.proofs.Reasons.{kind_tested}
use Rattle.demands.proofs.Line.{AllFit}
use Rattle.demands.proofs.Runs.{tested_all, valids}

-- ---- the receiver

-- the blocks of a line as they are read after a history: the headers as they stand, the payloads descrambled
unfoldable pub descrambled_blocks : ℕ → List Block → List Block
descrambled_blocks h [] = []
descrambled_blocks h (b ∷ bs) = record { header = b.header; payload = descrambled b.payload h } ∷ descrambled_blocks (line_after b.payload h) bs

-- each tested block has the kind and the vector of the block at its place
abbrev pub ReadAs : Edition → List Block → List Tested → Type 0
ReadAs ed [] [] = Unit
ReadAs ed [] (t ∷ ts) = ⊥
ReadAs ed (b ∷ bs) [] = ⊥
ReadAs ed (b ∷ bs) (t ∷ ts) = (kind_in t.class ≡ kind_of ed b.header b.payload) × (t.vector ≡ decoded ed b.header b.payload) × ReadAs ed bs ts

-- the tested blocks are those of the line, descrambled
pub reads : (l : Link) (bs : List Block) → ReadAs l.edition (descrambled_blocks l.history bs) (tested_all l bs)
unfolding descrambled_blocks tested_all tested_of link_of
reads l [] = tt
reads l (b ∷ bs) = (kind_tested l b.header b.payload, refl, reads (link_of l b.header b.payload) bs)

-- their payloads are the descrambled payloads of the line
pub payloads_descrambled : (h : ℕ) (bs : List Block) → map (λ (b : Block). b.payload) (descrambled_blocks h bs) ≡ descrambled_all (map (λ (b : Block). b.payload) bs) h
unfolding descrambled_blocks descrambled_all
payloads_descrambled h [] = refl
payloads_descrambled h (b ∷ bs) = ap (λ (ps : List ℕ). descrambled b.payload h ∷ ps) (payloads_descrambled (line_after b.payload h) bs)

-- ---- the sender

-- the blocks on the line
unfoldable pub line_blocks : ℕ → List Block → List Block
line_blocks h [] = []
line_blocks h (b ∷ bs) = scrambled_block b h ∷ line_blocks (history_after b.payload h) bs

-- as words of 66 bits
pub line_words_lem : (h : ℕ) (bs : List Block) → line_words h bs ≡ map block_number (line_blocks h bs)
unfolding line_words line_blocks
line_words_lem h [] = refl
line_words_lem h (b ∷ bs) = ap (λ (ws : List ℕ). block_number (scrambled_block b h) ∷ ws) (line_words_lem (history_after b.payload h) bs)

-- one for each block
pub length_line : (h : ℕ) (bs : List Block) → length (line_blocks h bs) ≡ length bs
unfolding line_blocks
length_line h [] = refl
length_line h (b ∷ bs) = ap suc (length_line (history_after b.payload h) bs)

-- scrambling leaves the headers as they are
pub line_valids : (h : ℕ) (bs : List Block) → valids (line_blocks h bs) ≡ valids bs
unfolding line_blocks valids
line_valids h [] = refl
line_valids h (b ∷ bs) = ap (λ (vs : List Bool). valid_of b.header ∷ vs) (line_valids (history_after b.payload h) bs)

-- a scrambled payload has 64 bits too
pub line_fits : (h : ℕ) (bs : List Block) → AllFit bs → AllFit (line_blocks h bs)
unfolding line_blocks
line_fits h [] f = tt
line_fits h (b ∷ bs) f = ((f.0.0, scrambled_lt b.payload h), line_fits (history_after b.payload h) bs f.1)

-- ---- there and back

-- from the sender's own history each block is read as it was sent
same_start : (h : ℕ) (bs : List Block) → AllFit bs → descrambled_blocks h (line_blocks h bs) ≡ bs
unfolding descrambled_blocks line_blocks
same_start h [] f = refl
same_start h (b ∷ bs) f =
    ap₂ ◌∷◌ (λ i. record { header = b.header; payload = descrambled_scrambled b.payload h f.0.1 i })
    (ap (λ (k : ℕ). descrambled_blocks k (line_blocks (history_after b.payload h) bs)) (line_scrambled b.payload h)
    ∙ same_start (history_after b.payload h) bs f.1)

-- whatever the receiver's history, each block from the second on
pub late_start : (h k : ℕ) → h < 2 ^ 58 → k < 2 ^ 58 → (b : Block) (bs : List Block) → AllFit bs
    → descrambled_blocks k (line_blocks h (b ∷ bs)) ≡ record { header = b.header; payload = descrambled (scrambled b.payload h) k } ∷ bs
unfolding descrambled_blocks line_blocks
late_start h k hb kb b bs f =
    ap (λ (rest : List Block). record { header = b.header; payload = descrambled (scrambled b.payload h) k } ∷ rest)
    (ap (λ (m : ℕ). descrambled_blocks m (line_blocks (history_after b.payload h) bs))
    (line_after_forget (scrambled b.payload h) k h kb hb ∙ line_scrambled b.payload h)
    ∙ same_start (history_after b.payload h) bs f)
