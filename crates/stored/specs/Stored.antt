-- A state of a line that arrives in bursts, in lent bytes: document 01, "A state or record that a later request passes through C is a lent
-- slice too". It is 29 words of 64 bits.
use Rattle.std.specs.Prelude.{ℕ, ◌*◌, List, [], ◌∷◌, ◌++◌, drop}
use Rattle.lent_words.specs.Words.{word_at, word_bytes, flag_word, yes}
use Rattle.kept_state.specs.declared.State.{State}

abbrev pub state_length : ℕ
state_length = 29

-- the words of a state: the closing call was made; line bytes; lock tested, invalid, locked; window blocks, invalid, high; scrambler bits;
-- the number of carried bits, the first two, the others; a bit to skip; diagram state; a block is held, in lock and not high, its kind,
-- the two words of its vector; tested, slips, vectors, header, type, control code and ordered set faults, begun, replaced; the edition
abbrev pub state_words : State → List ℕ
state_words s =
    flag_word s.closed ∷ s.bytes
    ∷ s.lock.tested ∷ s.lock.invalid ∷ flag_word s.lock.locked
    ∷ s.rate.blocks ∷ s.rate.invalid ∷ flag_word s.rate.high
    ∷ s.history
    ∷ s.carried.count ∷ s.carried.header ∷ s.carried.payload ∷ flag_word s.skip
    ∷ s.diagram
    ∷ flag_word s.have ∷ flag_word s.held.on ∷ s.held.kind ∷ s.held.first ∷ s.held.second
    ∷ s.counts.tested ∷ s.counts.slips ∷ s.vectors
    ∷ s.counts.headers ∷ s.counts.types ∷ s.counts.codes ∷ s.counts.sets
    ∷ s.handed.begun ∷ s.handed.replaced
    ∷ s.edition ∷ []

-- the state of these words
abbrev pub state_by : (ℕ → ℕ) → State
state_by w =
    record {
      closed = yes (w 0);
      bytes = w 1;
      edition = w 28;
      lock = record { tested = w 2; invalid = w 3; locked = yes (w 4) };
      rate = record { blocks = w 5; invalid = w 6; high = yes (w 7) };
      history = w 8;
      carried = record { count = w 9; header = w 10; payload = w 11 };
      skip = yes (w 12);
      diagram = w 13;
      have = yes (w 14);
      held = record { on = yes (w 15); kind = w 16; first = w 17; second = w 18 };
      counts = record { tested = w 19; slips = w 20; headers = w 22; types = w 23; codes = w 24; sets = w 25 };
      vectors = w 21;
      handed = record { begun = w 26; replaced = w 27 };
    }

-- the state in a slice that is long enough, and the slice once a state went to its start
unfoldable pub state_in : List ℕ → State
state_in bytes = state_by (word_at 8 bytes)

unfoldable pub stored_in : State → List ℕ → List ℕ
stored_in s bytes = word_bytes 8 (state_words s) ++ drop (8 * state_length) bytes
