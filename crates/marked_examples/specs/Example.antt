-- An example of document 01 or 02, and what it says on the definitions.
use Rattle.std.specs.Prelude.{◌≡◌, List, [], ◌∷◌, ℕ, ◌+◌, ◌*◌, ◌^◌}
use Rattle.scrambler.specs.Scrambler.{scrambled, mirror}
use Rattle.block.specs.declared.Edition.{Edition}
use Rattle.block.specs.declared.Kind.{Kind}
use Rattle.block.specs.declared.Class.{Class}
use Rattle.block.specs.Block.{block, carried, encode_answer, kind_of, class_of}

-- a payload by its bytes, the first lowest
unfoldable pub payload : List ℕ → ℕ
payload [] = 0
payload (b ∷ bs) = b + 2 ^ 8 * payload bs

-- the block of a vector; the kind of a block, or its class, by its header and the bytes of its payload; the line's bits of a payload sent from a state
pub data Example : Type 0 where
  encodes : List ℕ → Kind → List ℕ → Example
  classifies : ℕ → List ℕ → Kind → Example
  says : ℕ → List ℕ → Class → Example
  scrambles : ℕ → ℕ → ℕ → Example

abbrev pub Holds : Edition → Example → Type 0
Holds ed (encodes v k bytes) = encode_answer ed v ≡ carried (block k 1 (payload bytes))
Holds ed (classifies header bytes k) = kind_of ed header (payload bytes) ≡ k
Holds ed (says header bytes class) = class_of ed header (payload bytes) ≡ class
Holds ed (scrambles state p line) = scrambled p (mirror state) ≡ line

abbrev pub AllHold : Edition → List Example → Type 0
AllHold ed [] = Unit
AllHold ed (e ∷ es) = Holds ed e × AllHold ed es
