-- What listing the frames answers, and what it leaves in the lent list: document 02, 5/13, with the refusals of document 01.
use Rattle.std.specs.Prelude.{ℕ, ◌*◌, List, [], ◌∷◌, ◌++◌, ◌≡◌, length, drop, ltb, Result}
use Rattle.refusals.specs.First.{Check, check_at, first, by_verdict}
use Rattle.refusals.specs.Refused.{by_result}
use Rattle.refusals.specs.declared.Refused.{Refused}
use Rattle.vector_checks.specs.Checks.{vector_checks}
use Rattle.lent_words.specs.Words.{word_bytes, flag_word}
use Rattle.frames.specs.Frames.{word_list, data_octets, is_good, Frame, frames_of}

-- "word number from 0, data octets after Start, good or bad": 1 is good, 0 is bad
abbrev pub entry_words : Frame → List ℕ
entry_words f = f.word ∷ length (data_octets f.characters) ∷ flag_word (is_good f.characters) ∷ []

-- "Each frame is listed once, in order": an entry is three words of 32 bits, 12 bytes
unfoldable pub entries : List Frame → List ℕ
entries [] = []
entries (f ∷ fs) = word_bytes 4 (entry_words f) ++ entries fs

-- the frames of vector bytes, and their number
abbrev pub frames_in : List ℕ → List Frame
frames_in bytes = frames_of (word_list bytes)

abbrev pub frames_number : List ℕ → ℕ
frames_number bytes = length (frames_in bytes)

-- "Refusals: 1, 2, 5 as in sending, then 4 for a list too small, with the number of frames as place", into a list of so many bytes
unfoldable pub list_checks : List ℕ → (list : ℕ) → List Check
list_checks bytes list = vector_checks bytes ++ check_at 4 (frames_number bytes) (ltb list (12 * frames_number bytes)) ∷ []

-- the number of frames; or a refusal's number and place
pub data ListAnswer : Type 0 where
  frames_listed : (frames : ℕ) → ListAnswer
  refused : (number place : ℕ) → ListAnswer

unfoldable pub list_answer : List ℕ → (list : ℕ) → ListAnswer
list_answer bytes list = by_verdict (first (list_checks bytes list)) (frames_listed (frames_number bytes)) refused

-- "Success writes exactly the stated bytes from the start of the lent room; the rest is unchanged." A refusal changes nothing.
unfoldable pub list_after : List ℕ → List ℕ → List ℕ
list_after bytes list =
    by_verdict (first (list_checks bytes (length list))) (entries (frames_in bytes) ++ drop (length (entries (frames_in bytes))) list) (λ number place. list)

-- the document's number and values for each case of the answer
abbrev pub answer_of : Result ℕ Refused → ListAnswer
answer_of = by_result frames_listed refused

-- the promise: `list` was lent `list`, answered `r` and left `list'`
abbrev pub Lists : (bytes list : List ℕ) (r : Result ℕ Refused) (list' : List ℕ) → Type 0
Lists bytes list r list' = (answer_of r ≡ list_answer bytes (length list)) × (list' ≡ list_after bytes list)
