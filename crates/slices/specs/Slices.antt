-- What C lends to receiving, document 01, 'What the probe's library covers': its summary, and "A state or record that a later request passes
-- through C is a lent slice too; one too short is refusal 4": its counters (document 02, 3/13). Where a summary or the counters are a
-- number here, it is the length of the slice.
use Rattle.std.specs.Prelude.{ℕ, Bool, ◌||◌, List, [], ◌∷◌, ◌++◌, drop, replicate}
use Rattle.receiving.specs.Answer as Receive
use Rattle.counters.specs.declared.Counters.{Counters}
use Rattle.lent_words.specs.Words.{word_bytes, word_at, too_short, flag_word}

-- ---- the counters: eight words of 32 bits

-- the counters that a slice holds, and their words
abbrev pub counters_in : List ℕ → Counters
counters_in bytes =
    record {
      tested = word_at 4 bytes 0;
      slips = word_at 4 bytes 1;
      headers = word_at 4 bytes 2;
      types = word_at 4 bytes 3;
      codes = word_at 4 bytes 4;
      sets = word_at 4 bytes 5;
      begun = word_at 4 bytes 6;
      replaced = word_at 4 bytes 7;
    }

abbrev pub counter_words : Counters → List ℕ
counter_words c = c.tested ∷ c.slips ∷ c.headers ∷ c.types ∷ c.codes ∷ c.sets ∷ c.begun ∷ c.replaced ∷ []

-- the slice once counters went to its start
abbrev pub counters_with : Counters → List ℕ → List ℕ
counters_with c bytes = word_bytes 4 (counter_words c) ++ drop 32 bytes

-- ---- receiving's summary and counters

-- its summary has twelve words
abbrev pub receive_length : ℕ
receive_length = 12

-- whether the summary or the counters are too short
abbrev pub short_slice : (summary counters : ℕ) → Bool
short_slice summary counters = too_short 8 receive_length summary || too_short 4 8 counters

-- tested, slips, locked, high, vectors; header, type, control code and ordered set code faults; the flag of the last vector; begun, replaced;
-- zeros for a refusal
abbrev pub receive_words : Receive.ReceiveAnswer → List ℕ
receive_words (Receive.received s) =
    s.counts.tested ∷ s.counts.slips ∷ flag_word s.locked ∷ flag_word s.high ∷ s.vectors
    ∷ s.counts.headers ∷ s.counts.types ∷ s.counts.codes ∷ s.counts.sets ∷ flag_word s.alone
    ∷ s.handed.begun ∷ s.handed.replaced ∷ []
receive_words (Receive.refused number place) = replicate receive_length 0
