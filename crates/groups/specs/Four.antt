-- A reviewer can skip this file: what the functions that send four vectors promise each other.
use Rattle.std.specs.Prelude.{ℕ, ◌+◌, ◌*◌, ◌<◌, ◌≡◌, List, [], ◌∷◌, get_or, take, drop}
use Rattle.line.specs.BlockNumber.{block_number}
use Rattle.line.specs.declared.Block.{Block}
use Rattle.block.specs.declared.Edition.{Edition}
use Rattle.block.specs.Block.{carrier}
use Rattle.block.specs.declared.Coded.{Coded}
use Rattle.block.specs.Coded.{coded_of}
use Rattle.encoding.specs.Parts.{lanes_at}
use Rattle.transmit.specs.declared.Sender.{Sender}
use Rattle.transmit.specs.declared.Step.{Step}
use Rattle.groups.specs.declared.Group.{Group}
use Rattle.transmit.specs.Steps.{SentAs}

-- The vector at a place of the vector bytes: its eight octets, character 0 lowest, and that it is encoded as this.
abbrev pub octets_at : List ℕ → ℕ → ℕ
octets_at bytes at = lanes_at bytes (at + 1) + lanes_at bytes (at + 6) * 4294967296

abbrev pub Codes : Edition → List ℕ → ℕ → Coded → Type 0
Codes ed bytes at e = e ≡ coded_of (carrier ed (take 10 (drop at bytes)))

-- four vectors that are encoded alike, and that have the same octets
pub record CodedAlike (ed : Edition) (bytes : List ℕ) (at : ℕ) (e : Coded) : Type 0 where
  pub first : Codes ed bytes at e
  pub second : Codes ed bytes (at + 10) e
  pub third : Codes ed bytes (at + 20) e
  pub fourth : Codes ed bytes (at + 30) e

pub record AllAre (bytes : List ℕ) (at octets : ℕ) : Type 0 where
  pub first : octets_at bytes at ≡ octets
  pub second : octets_at bytes (at + 10) ≡ octets
  pub third : octets_at bytes (at + 20) ≡ octets
  pub fourth : octets_at bytes (at + 30) ≡ octets

-- the control bytes of four vectors, added up
abbrev pub controls_at : List ℕ → ℕ → ℕ
controls_at bytes at =
    get_or bytes at 0 + get_or bytes (at + 5) 0 + get_or bytes (at + 10) 0 + get_or bytes (at + 15) 0
    + get_or bytes (at + 20) 0 + get_or bytes (at + 25) 0 + get_or bytes (at + 30) 0 + get_or bytes (at + 35) 0

-- four steps as a group
abbrev pub group_of : (a b c d : Step) → Group
group_of a b c d = record { a = a.block; b = b.block; c = c.block; d = d.block; next = d.next }

-- Four blocks that go on the line: their words, and that their headers have two bits.
abbrev pub group_words : (a b c d : Block) → List ℕ
group_words a b c d = block_number a ∷ block_number b ∷ block_number c ∷ block_number d ∷ []

pub record TwoBits (a b c d : Block) : Type 0 where
  pub first : a.header < 4
  pub second : b.header < 4
  pub third : c.header < 4
  pub fourth : d.header < 4

-- Four vectors from where s stands.
pub record SentFour (ed : Edition) (s : Sender) (vectors : List (List ℕ)) (r : Group) : Type 0 where
  pub sends : SentAs ed s vectors (group_words r.a r.b r.c r.d) r.next
  pub headers : TwoBits r.a r.b r.c r.d
