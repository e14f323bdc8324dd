-- Demand 1 of frames through C. What a call comes to is its result and the lent slices: a result is 0, or a refusal's number and 256 times its
-- place; a refusal leaves zeros in the summary, and the list as it was.
use Rattle.std.specs.Prelude.{ℕ, ◌+◌, ◌*◌, List, [], ◌∷◌, ◌++◌, length, drop}
use Rattle.refusals.specs.First.{check}
use Rattle.refusals.specs.Outcome.{Outcome}
use Rattle.lent_words.specs.Words.{one_more_after, word_bytes, too_short}
use Rattle.lent_words.specs.Demand1.{zeroed}
use Rattle.frame_list.specs.Answer.{entries, frames_in, frames_number, list_checks}
use Rattle.holzmotte_frames.specs.Boundary.{ListsThroughC}

abbrev pub Demand1OfListThroughC : Type 0
Demand1OfListThroughC =
    (bytes list summary : List ℕ) (r : ℕ) (list' summary' : List ℕ) → ListsThroughC bytes list summary r list' summary'
    → Outcome {A = ℕ × List ℕ × List ℕ} (one_more_after 3 (check 4 (too_short 8 1 (length summary))) (list_checks bytes (length list)))
    (r, list', summary') (
      0,
      entries (frames_in bytes) ++ drop (length (entries (frames_in bytes))) list,
      word_bytes 8 (frames_number bytes ∷ []) ++ drop 8 summary,
    )
    (λ number place. (number + 256 * place, list, zeroed 1 summary))
