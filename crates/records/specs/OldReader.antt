-- Document 02, 7/13: "An old reader meets a longer body with refusal 7 and never shows part of it." An old reader is `read_at old_body_limit`.
use Rattle.std.specs.Prelude.{ℕ, zero, suc, ◌+◌, ◌≡◌, List, [], ◌∷◌, Bool, cond, ◌&&◌, length, ltb, leb}
use Rattle.records.specs.Record.{body_limit, old_body_limit, two_at, Answer, whole, end, refused, read_at}

-- a head at this place has a body longer than the old limit
abbrev pub longer_at : (file : List ℕ) (at : ℕ) → Bool
longer_at file at = leb (at + 4) (length file) && ltb old_body_limit (two_at file at)

-- what is found at one place: the same by both readers, but where the body is longer, and there the old one refuses with 7
abbrev pub OldReaderAt : Type 0
OldReaderAt = (file : List ℕ) (at : ℕ) → read_at old_body_limit file at ≡ cond (longer_at file at) (refused 7 at) (read_at body_limit file at)

-- what a reader finds, and what it finds from the place after a whole record on
abbrev pub then_from : Answer → (from : ℕ → List Answer) → List Answer
then_from (whole kind start len next) from = whole kind start len next ∷ from next
then_from end from = end ∷ []
then_from (refused number place) from = refused number place ∷ []

-- the first n answers of a reader from a place of a file on, up to the plain end or a refusal
unfoldable pub answers_from : (limit n : ℕ) (file : List ℕ) (at : ℕ) → List Answer
answers_from limit zero file at = []
answers_from limit (suc n) file at = then_from (read_at limit file at) (answers_from limit n file)

-- those of a new reader up to the first longer body, and there refusal 7
unfoldable pub answers_up_to_longer : (n : ℕ) (file : List ℕ) (at : ℕ) → List Answer
answers_up_to_longer zero file at = []
answers_up_to_longer (suc n) file at = cond (longer_at file at) (refused 7 at ∷ []) (then_from (read_at body_limit file at) (answers_up_to_longer n file))

-- a whole file: up to the first longer body an old and a new reader find the same, and there the old one refuses with 7
abbrev pub OldReader : Type 0
OldReader = (n : ℕ) (file : List ℕ) (at : ℕ) → answers_from old_body_limit n file at ≡ answers_up_to_longer n file at
