-- The frames of lists that are sent.
use Rattle.std.specs.Prelude.{ℕ, ◌≡◌, true, ◌||◌, List, [], ◌∷◌}
use Rattle.block.specs.Block.{edition_of, vector_list}
use Rattle.transmit.specs.Send.{sent_line}
use Rattle.receiving.specs.Receive.{received_vectors}
use Rattle.demands.specs.Words.{SendAccepts, legal}
use Rattle.demands.specs.Demand2.{Returnable}
use Rattle.frames.specs.Frames.{is_good, Frame, word_list, frames_of}
use Rattle.frames.specs.Apart.{is_open}

-- What is received has the frames of what was sent. For every list of vectors that sending accepts, from any start state that it allows, that is
-- legal and whose first 64 vectors are control vectors: the vectors that a fresh receiver gives over the sent line have the frames of the list, each
-- with the same word number and the same characters, so with the same octets and the same verdict.
abbrev pub FramesReturn : Type 0
FramesReturn =
    (edition : ℕ) (bytes : List ℕ) (start room : ℕ) → SendAccepts edition bytes start room → Returnable (edition_of edition) (vector_list bytes)
    → frames_of (word_list (received_vectors (edition_of edition) (sent_line (edition_of edition) bytes start))) ≡ frames_of (word_list bytes)

-- each is good, or still open; one that is open is the last (`OpenFrames`)
abbrev pub GoodOrOpen : List Frame → Type 0
GoodOrOpen [] = Unit
GoodOrOpen (f ∷ fs) = ((is_good f.characters || is_open f.characters) ≡ true) × GoodOrOpen fs

-- The frames of a legal list are good, but for one that is still open at its end.
abbrev pub LegalFrames : Type 0
LegalFrames =
    (edition : ℕ) (bytes : List ℕ) (start room : ℕ) → SendAccepts edition bytes start room → legal (edition_of edition) (vector_list bytes) ≡ true
    → GoodOrOpen (frames_of (word_list bytes))
