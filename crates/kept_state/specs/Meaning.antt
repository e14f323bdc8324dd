-- Document 02, 2/13: "its state handed back and given again". The receiver that a state's numbers mean, whatever they are, and the numbers of
-- a receiver.
use Rattle.std.specs.Prelude.{ℕ, ◌+◌, ◌-◌, ◌*◌, ◌/◌, ◌%◌, ◌^◌, Bool, true, false, cond, List, [], ◌∷◌, length, get_or, ltb}
use Rattle.bits.specs.Bits.{bit, listed}
use Rattle.block.specs.Block.{edition_of, two_words, kind_in, good}
use Rattle.block.specs.declared.Edition.{Edition}
use Rattle.block.specs.declared.Edition.TheVariants.{Old, New}
use Rattle.block.specs.declared.Kind.{Kind}
use Rattle.block.specs.declared.Kind.TheVariants.{D, C, S, T, E, LI}
use Rattle.carrying.specs.declared.Carried.{Carried}
use Rattle.diagrams.specs.declared.State as Diagram
use Rattle.diagrams.specs.declared.State.TheVariants.{Init, Control, Data, Terminate, Error, LowPower}
use Rattle.receiving.specs.Machine.{Tested, Feed, header_of, payload_of}
use Rattle.receiving.specs.declared.Link.{Link}
use Rattle.kept_state.specs.declared.State.{State}
use Rattle.kept_state.specs.declared.Kept.{Kept}

-- ---- carried bits: the first two are bits of one word, the others of another; a bit at or above their number is no carried bit

unfoldable pub bits_in : Carried → List ℕ
bits_in c = listed c.count (λ i. cond (ltb i 2) (bit c.header i) (bit c.payload (i - 2)))

abbrev pub carried_for : List ℕ → Carried
carried_for bits = record { count = length bits; header = header_of bits; payload = payload_of bits }

-- ---- the diagram's state: "INIT, C, D, T, E are numbered 0 to 4"; "LI is numbered 5"

-- the states of an edition, in the order of their numbers
abbrev pub states : Edition → List Diagram.State
states Old = Init ∷ Control ∷ Data ∷ Terminate ∷ Error ∷ []
states New = Init ∷ Control ∷ Data ∷ Terminate ∷ Error ∷ LowPower ∷ []

-- the state of a number; an unknown one is refused
unfoldable pub diagram_by : ℕ → Diagram.State
diagram_by n = get_or (states New) n Init

-- ---- the held block, whose vector waits for the next block: only what its answer needs, for its slip and its reason were counted when it
-- was tested

-- the kinds of an edition, in the order of their numbers
abbrev pub kinds : Edition → List Kind
kinds Old = D ∷ C ∷ S ∷ T ∷ E ∷ []
kinds New = D ∷ C ∷ S ∷ T ∷ E ∷ LI ∷ []

abbrev pub held_kind_number : Kind → ℕ
held_kind_number D = 0
held_kind_number C = 1
held_kind_number S = 2
held_kind_number T = 3
held_kind_number E = 4
held_kind_number LI = 5

-- the kind of a number; one that is no kind of the edition is E
unfoldable pub held_kind_by : Edition → ℕ → Kind
held_kind_by ed n = get_or (kinds ed) n E

-- its vector: the five bytes of each word as one number, the control byte lowest; bits 40 and above are none of it
abbrev pub five_bytes : List ℕ → ℕ → ℕ
five_bytes v p = get_or v p 0 + 2 ^ 8 * get_or v (p + 1) 0 + 2 ^ 16 * get_or v (p + 2) 0 + 2 ^ 24 * get_or v (p + 3) 0 + 2 ^ 32 * get_or v (p + 4) 0

abbrev pub vector_in : Kept → List ℕ
vector_in k = two_words (k.first % 2 ^ 8) (k.first / 2 ^ 8) (k.second % 2 ^ 8) (k.second / 2 ^ 8)

-- the block, if one is held
abbrev pub block_meant : Edition → Kept → Tested
block_meant ed k = record { on = k.on; slipped = false; class = good (held_kind_by ed k.kind); vector = vector_in k }

unfoldable pub held_by : Edition → Bool → Kept → List Tested
held_by ed have k = cond have (block_meant ed k ∷ []) []

-- the numbers of a block, and of none
unfoldable pub kept_for : List Tested → Kept
kept_for [] = record { on = false; kind = 0; first = 0; second = 0 }
kept_for (t ∷ ts) =
    record { on = t.on; kind = held_kind_number (kind_in t.class); first = five_bytes t.vector 0; second = five_bytes t.vector 5 }

abbrev pub have_for : List Tested → Bool
have_for [] = false
have_for (t ∷ ts) = true

-- ---- the receiver that a state means

abbrev pub link_meant : State → Link
link_meant s = record { edition = edition_of s.edition; lock = s.lock; rate = s.rate; history = s.history }

unfoldable pub feed_meant : State → Feed
feed_meant s = record { bits = bits_in s.carried; skip = s.skip; link = link_meant s }

abbrev pub diagram_meant : State → Diagram.State
diagram_meant s = diagram_by s.diagram

abbrev pub held_meant : State → List Tested
held_meant s = held_by (edition_of s.edition) s.have s.held
