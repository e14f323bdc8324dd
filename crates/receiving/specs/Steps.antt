-- Document 01: "The count of tested headers equals the number of lock steps in the definition". The headers that a receiver tests.
use Rattle.std.specs.Prelude.{Bool, cond, List, [], ◌∷◌, ◌++◌, ℕ}
use Rattle.receiving.specs.Machine.{Feed, fills, feed, header_of, valid_of}

-- the header that a line bit completes, if it does, by whether it is valid
unfoldable pub valid_header : Feed → ℕ → List Bool
valid_header f b = cond f.skip [] (cond (fills f) (valid_of (header_of (f.bits ++ b ∷ [])) ∷ []) [])

-- those of all these bits, in order
unfoldable pub valid_headers : Feed → List ℕ → List Bool
valid_headers f [] = []
valid_headers f (b ∷ bits) = valid_header f b ++ valid_headers (feed f b) bits
