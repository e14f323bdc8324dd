-- Any two answers that meet the promise are equal: the words of four blocks with headers of two bits tell the blocks.
use Prim.Native.Nat.{ℕ, ◌<◌}
use mathlib.Core.Path.{◌≡◌, sym, ap, ◌∙◌}
use mathlib.Core.List.{List}
use native.Mathlib.Omega.{arith}
use lib.ListN.{drop, get_or}
use Rattle.line.specs.BlockNumber.{block_number}
use Rattle.line.specs.declared.Block.{Block}
use Rattle.block.specs.declared.Edition.{Edition}
use Rattle.block.specs.Block.{vectors_in}
use Rattle.transmit.specs.declared.Sender.{Sender}
use Rattle.groups.specs.declared.Group.{Group}
use Rattle.groups.specs.Four.{group_words, SentFour}

-- a word tells its block
block_same : (b b' : Block) → b.header < 4 → b'.header < 4 → block_number b ≡ block_number b' → b ≡ b'
block_same b b' l l' e =
    let h : b.header ≡ b'.header = omega arith in
    let p : b.payload ≡ b'.payload = omega arith in
    rw (h, p)

-- where sending stands is told by its diagram, its history and its count
stands_same : (s s' : Sender) → s.diagram ≡ s'.diagram → s.history ≡ s'.history → s.replaced ≡ s'.replaced → s ≡ s'
stands_same s s' d h n = rw (d, h, n)

pub send_four_unique : (ed : Edition) (bytes : List ℕ) (at : ℕ) (s : Sender) (r r' : Group)
    → SentFour ed s (vectors_in 4 (drop at bytes)) r → SentFour ed s (vectors_in 4 (drop at bytes)) r' → r ≡ r'
send_four_unique ed bytes at s r r' p q =
    let w : group_words r.a r.b r.c r.d ≡ group_words r'.a r'.b r'.c r'.d = p.sends.line ∙ sym q.sends.line in
    let h = p.headers in
    let k = q.headers in
    let a : r.a ≡ r'.a = block_same r.a r'.a h.first k.first (ap (λ (l : List ℕ). get_or l 0 0) w) in
    let b : r.b ≡ r'.b = block_same r.b r'.b h.second k.second (ap (λ (l : List ℕ). get_or l 1 0) w) in
    let c : r.c ≡ r'.c = block_same r.c r'.c h.third k.third (ap (λ (l : List ℕ). get_or l 2 0) w) in
    let d : r.d ≡ r'.d = block_same r.d r'.d h.fourth k.fourth (ap (λ (l : List ℕ). get_or l 3 0) w) in
    let n : r.next ≡ r'.next =
    stands_same r.next r'.next (p.sends.diagram ∙ sym q.sends.diagram) (p.sends.history ∙ sym q.sends.history)
    (p.sends.count ∙ sym q.sends.count) in
    rw (a, b, c, d, n)
