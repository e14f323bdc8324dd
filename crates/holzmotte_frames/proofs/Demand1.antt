-- Demand 1 of frames through C, proved over the definitions. Assumes nothing.
use mathlib.Core.Path.{◌≡◌, refl, ap, ◌∙◌}
use mathlib.Core.List.{List, [], ◌∷◌, ◌++◌}
use Prim.Native.Nat.{ℕ}
use lib.ListN.{length, drop, replicate}
use Rattle.refusals.specs.First.{check, Verdict, accepted, refused, first, by_verdict}
use Rattle.refusals.proofs.Outcome.{outcome}
use Rattle.lent_words.specs.Words.{one_more_after, too_short, summary_with}
use Rattle.lent_words.proofs.Demand1.{through}
use Rattle.frame_list.specs.Answer.{entries, frames_in, frames_number, frames_listed, list_checks, list_after}
use Rattle.frame_list.specs.Answer as Answer
use Rattle.holzmotte_frames.specs.Boundary.{frames_verdict, frames_words, frames_result, frames_list, frames_summary}
use Rattle.holzmotte_frames.specs.Demand1.{Demand1OfListThroughC}

-- the summary's word by a verdict
frames_words_lem : (v : Verdict) (n : ℕ) → frames_words (by_verdict v (frames_listed n) Answer.refused) ≡ by_verdict v (n ∷ []) (λ number place. replicate 1 0)
frames_words_lem accepted n = refl
frames_words_lem (refused m p) n = refl

pub demand_1_of_list_through_c : Demand1OfListThroughC
unfolding frames_result frames_list frames_summary frames_verdict list_after
demand_1_of_list_through_c bytes list summary r list' summary' p =
    outcome _ _ _ _
    (through 1 3 (too_short 8 1 (length summary)) (list_checks bytes (length list)) (frames_number bytes ∷ []) summary
    (entries (frames_in bytes) ++ drop (length (entries (frames_in bytes))) list) list (λ e. e) r list' summary' p.0 p.1
    (p.2 ∙ ap (λ (ws : List ℕ). summary_with 1 ws summary)
    (frames_words_lem (first (one_more_after 3 (check 4 (too_short 8 1 (length summary))) (list_checks bytes (length list)))) (frames_number bytes))))
