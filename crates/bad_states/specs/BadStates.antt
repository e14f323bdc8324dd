-- Document 02, 2/13 and 9/13: what refusal 10 is given for.
use Rattle.std.specs.Prelude.{◌^◌, Bool, false, not, ◌&&◌, ◌||◌, List, [], ◌∷◌, length, leb, ltb}
use Rattle.block.specs.Block.{edition_of}
use Rattle.kept_state.specs.declared.State.{State}
use Rattle.kept_state.specs.Meaning.{states}

-- some of these hold
abbrev pub any : List Bool → Bool
any [] = false
any (b ∷ bs) = b || any bs

-- "a lock count above 63 tested or 15 invalid, a window count above 19,530, line bytes above 825,000"
abbrev pub over_counts : State → List Bool
over_counts s =
    ltb 63 s.lock.tested ∷ ltb 15 s.lock.invalid
    ∷ ltb 19530 s.rate.blocks ∷ ltb 19530 s.rate.invalid
    ∷ ltb 825000 s.bytes ∷ []

-- "a summary count above 100,000"
abbrev pub over_summary : State → List Bool
over_summary s =
    ltb 100000 s.counts.tested ∷ ltb 100000 s.counts.slips ∷ ltb 100000 s.vectors
    ∷ ltb 100000 s.counts.headers ∷ ltb 100000 s.counts.types ∷ ltb 100000 s.counts.codes ∷ ltb 100000 s.counts.sets
    ∷ ltb 100000 s.handed.begun ∷ ltb 100000 s.handed.replaced ∷ []

-- "more invalid than tested in the lock counts or in the window, either of these invalid counts above zero or `high` while not locked"
abbrev pub at_odds : State → List Bool
at_odds s =
    ltb s.lock.tested s.lock.invalid ∷ ltb s.rate.blocks s.rate.invalid
    ∷ (not s.lock.locked && any (ltb 0 s.lock.invalid ∷ ltb 0 s.rate.invalid ∷ s.rate.high ∷ []))
    ∷ []

-- "scrambler bits at or above 2^58, over 65 carried bits, or an unknown diagram state": one that is none of the edition
abbrev pub out_of_range : State → List Bool
out_of_range s = leb (2 ^ 58) s.history ∷ ltb 65 s.carried.count ∷ leb (length (states (edition_of s.edition))) s.diagram ∷ []

-- "and given for nothing else"
unfoldable pub bad_state : State → Bool
bad_state s = any (over_counts s) || (any (over_summary s) || (any (at_odds s) || any (out_of_range s)))
