-- The C boundary of frames, document 02, 5/13: listing them over byte slices. Where a list or a summary is a number here, it is the length of
-- the slice.
use Rattle.std.specs.Prelude.{ℕ, ◌≡◌, List, [], ◌∷◌, length}
use Rattle.refusals.specs.First.{check, Verdict, first, by_verdict}
use Rattle.lent_words.specs.Words.{result_of, one_more_after, too_short, summary_with}
use Rattle.frame_list.specs.Answer.{frames_number, ListAnswer, frames_listed, refused, list_checks, list_after}

-- 1, 2, 5, then 4 for the summary, with place 0, then 4 for the list, with the number of frames as its place
unfoldable pub frames_verdict : List ℕ → (list summary : ℕ) → Verdict
frames_verdict bytes list summary = first (one_more_after 3 (check 4 (too_short 8 1 summary)) (list_checks bytes list))

-- its one word: the number of frames; zero for a refusal
abbrev pub frames_words : ListAnswer → List ℕ
frames_words (frames_listed frames) = frames ∷ []
frames_words (refused number place) = 0 ∷ []

unfoldable pub frames_result : List ℕ → (list summary : ℕ) → ℕ
frames_result bytes list summary = result_of (frames_verdict bytes list summary)

-- the list and the summary afterwards: a refusal leaves the list as it was
unfoldable pub frames_list : List ℕ → List ℕ → (summary : ℕ) → List ℕ
frames_list bytes list summary = by_verdict (frames_verdict bytes (length list) summary) (list_after bytes list) (λ number place. list)

unfoldable pub frames_summary : List ℕ → (list : ℕ) → List ℕ → List ℕ
frames_summary bytes list summary =
    summary_with 1 (frames_words (by_verdict (frames_verdict bytes list (length summary)) (frames_listed (frames_number bytes)) refused)) summary

-- the promise: `holzmotte_frames` was lent `list` and `summary`, returned `r` and left `list'` and `summary'`
abbrev pub ListsThroughC : (bytes list summary : List ℕ) (r : ℕ) (list' summary' : List ℕ) → Type 0
ListsThroughC bytes list summary r list' summary' =
    (r ≡ frames_result bytes (length list) (length summary))
    × (list' ≡ frames_list bytes list (length summary))
    × (summary' ≡ frames_summary bytes (length list) summary)
