-- Document 02, 1/13, as its laws speak of it: the blocks of a line as they were taken, and the vectors by document 01's kinds alone.
use Rattle.std.specs.Prelude.{ℕ, ◌+◌, Bool, true, cond, not, ◌&&◌, List, [], ◌∷◌, ◌++◌}
use Rattle.bits.specs.Bits.{line_bits}
use Rattle.scrambler.specs.Scrambler.{descrambled}
use Rattle.block.specs.declared.Edition.{Edition}
use Rattle.block.specs.Block.{kind_of, decoded}
use Rattle.block.specs.declared.Kind.{Kind}
use Rattle.diagrams.specs.Diagram.{diagram_of, follows}
use Rattle.diagrams.specs.declared.State.{State}
use Rattle.diagrams.specs.declared.State.TheVariants.{Init}
use Rattle.receiving.specs.Machine.{Feed, at, header_of, payload_of, fills, feed, link_fresh, link_of}
use Rattle.receiving.specs.Receive.{answer_in}
use Rattle.receiving.specs.declared.Link.{Link}
use Rattle.receiving.specs.declared.Counts.{Counts}

-- a block as it was taken from the line: the link before it, its header and its payload
pub record Taken : Type 0 where
  pub link : Link
  pub header : ℕ
  pub payload : ℕ

-- the block that a bit fills, if it fills one; those of a list of bits; those of a line
abbrev pub taken_at : Feed → ℕ → List Taken
taken_at f b =
    cond f.skip []
    (cond (fills f) (record { link = f.link; header = header_of (f.bits ++ b ∷ []); payload = payload_of (f.bits ++ b ∷ []) } ∷ []) [])

unfoldable pub taken_from : Feed → List ℕ → List Taken
taken_from f [] = []
taken_from f (b ∷ bits) = taken_at f b ++ taken_from (feed f b) bits

unfoldable pub taken_blocks : Edition → List ℕ → List Taken
taken_blocks ed line = taken_from (at (link_fresh ed)) (line_bits line)

-- its kind and its vector by document 01, and whether the receiver is then locked and not high
abbrev pub taken_plain : Taken → ℕ
taken_plain t = descrambled t.payload t.link.history

abbrev pub taken_kind : Taken → Kind
taken_kind t = kind_of t.link.edition t.header (taken_plain t)

abbrev pub taken_vector : Taken → List ℕ
taken_vector t = decoded t.link.edition t.header (taken_plain t)

abbrev pub taken_on : Taken → Bool
taken_on t = let l = link_of t.link t.header t.payload in l.lock.locked && not l.rate.high

-- the four counts together
abbrev pub bad_blocks : Counts → ℕ
bad_blocks c = c.headers + c.types + c.codes + c.sets

-- "The vectors handed out stay as they are": document 01's Receive with 6/13's missing next block, by the kinds alone
abbrev pub ends_by_kind : List Taken → Bool
ends_by_kind [] = true
ends_by_kind (t ∷ ts) = taken_on t && follows (taken_kind t)

abbrev pub state_by_kind : State → Taken → Bool → State
state_by_kind s t ends = cond (taken_on t) (diagram_of s (taken_kind t) ends) Init

unfoldable pub answers_by_kind : State → List Taken → List (List ℕ)
answers_by_kind s [] = []
answers_by_kind s (t ∷ ts) =
    let s' = state_by_kind s t (ends_by_kind ts) in
    answer_in s' (taken_vector t) ∷ answers_by_kind s' ts
