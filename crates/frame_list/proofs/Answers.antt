-- The verdict on a list of vectors, as callers use it, and how large an answer can be. Assumes nothing.
use Prim.Native.Nat.{ℕ, zero, suc, ◌*◌, ◌/◌, ◌<◌, ◌≤◌}
use Rattle.std.specs.Prelude.{Ok, Err}
use mathlib.Core.Path.{◌≡◌, refl, sym, ap, ◌∙◌}
use mathlib.Core.Bool.{Bool, true, false, cond}
use mathlib.Core.List.{List, [], ◌∷◌, ◌++◌}
use native.Mathlib.Omega.{arith}
use lib.Dec.{ltb}
use lib.ListN.{length, drop}
use borrow.Author.Tests.{ltb-false, lt-ltb, le-ltb}
use Rattle.refusals.specs.Number.{number_of}
use Rattle.refusals.specs.declared.Refused.{Refused}
use Rattle.refusals.specs.declared.Refusal.TheVariants.{Room}
use Rattle.refusals.proofs.Laws.{applied, skipped, accepts}
use Rattle.refusals.specs.First.{Check, check_at, Verdict, accepted, refused, first, by_verdict}
use Rattle.vector_checks.specs.Checks.{vector_checks}
use Rattle.vector_checks.proofs.Laws.{short, place_behind, stopped, went_on}
use Rattle.frames.specs.Frames.{words_in, word_list}
use Rattle.frames.proofs.Apart.{few_frames}
use Rattle.frame_list.specs.Answer.{entries, frames_in, frames_number, frames_listed, ListAnswer, list_checks, list_answer, list_after, Lists}
use Rattle.frame_list.specs.Demand1.{RoomEnough}
use Rattle.frame_list.specs.Answer as Answer

words_number : (k : ℕ) (bytes : List ℕ) → length (words_in k bytes) ≡ k
unfolding words_in
words_number zero bytes = refl
words_number (suc k) bytes = ap suc (words_number k (drop 5 bytes))

pub number_most : (bytes : List ℕ) → frames_number bytes ≤ length bytes / 10
number_most bytes = omega (arith, few_frames (word_list bytes), words_number (length bytes / 5) bytes)

pub room_enough : RoomEnough
room_enough bytes list h = le-ltb list (12 * frames_number bytes) (omega (arith, number_most bytes))

-- ---- counting only where a list may be too small

module _ (bytes : List ℕ) (list frames : ℕ) (e : frames ≡ cond (ltb (list / 12) (length bytes / 10)) (frames_number bytes) 0) where
  -- it is too small exactly for the number that is then counted
  pub counted_small : list < 12 * frames → (frames ≡ frames_number bytes) × (ltb list (12 * frames_number bytes) ≡ true)
  counted_small h = go (ltb (list / 12) (length bytes / 10)) e
    where
      go : (b : Bool) → frames ≡ cond b (frames_number bytes) 0 → (frames ≡ frames_number bytes) × (ltb list (12 * frames_number bytes) ≡ true)
      go true f = (f, lt-ltb list (12 * frames_number bytes) (omega arith))
      go false f = absurd (omega arith)

  pub counted_room : 12 * frames ≤ list → ltb list (12 * frames_number bytes) ≡ false
  counted_room h = go (ltb (list / 12) (length bytes / 10)) refl e
    where
      go : (b : Bool) → ltb (list / 12) (length bytes / 10) ≡ b → frames ≡ cond b (frames_number bytes) 0 → ltb list (12 * frames_number bytes) ≡ false
      go true t f = le-ltb list (12 * frames_number bytes) (omega arith)
      go false t f = room_enough bytes list (omega (arith, ltb-false (list / 12) (length bytes / 10) t))

-- ---- the verdict

-- an answer tells it
abbrev pub verdict_of_list : ListAnswer → Verdict
verdict_of_list (frames_listed frames) = accepted
verdict_of_list (Answer.refused number place) = refused number place

told : (v : Verdict) (n : ℕ) → verdict_of_list (by_verdict v (frames_listed n) Answer.refused) ≡ v
told accepted n = refl
told (refused m p) n = refl

pub verdict_told : (bytes : List ℕ) (list : ℕ) → verdict_of_list (list_answer bytes list) ≡ first (list_checks bytes list)
unfolding list_answer
verdict_told bytes list = told (first (list_checks bytes list)) (frames_number bytes)

-- ---- by the checks of the vectors, and of the list behind them

module _ (bytes list : List ℕ) where
  abbrev behind : List Check
  behind = check_at 4 (frames_number bytes) (ltb (length list) (12 * frames_number bytes)) ∷ []

  -- the vectors are refused
  pub bad_vectors : (r : Refused) → refused (number_of r.0) r.1 ≡ first (vector_checks bytes) → Lists bytes list (Err r) list
  unfolding list_answer list_after list_checks
  bad_vectors r e =
      (stopped bytes behind (frames_listed (frames_number bytes)) Answer.refused (number_of r.0) r.1 e, stopped bytes behind _ (λ number place. list) (number_of r.0) r.1 e)

  module _ (a : accepted ≡ first (vector_checks bytes)) where
    -- the list is too small
    pub small_list : (frames : ℕ) → frames ≡ frames_number bytes → ltb (length list) (12 * frames_number bytes) ≡ true → Lists bytes list (Err (record { 0 = Room; 1 = frames })) list
    unfolding list_answer list_after list_checks
    small_list frames e t =
        let is : refused 4 frames ≡ first behind = ap (refused 4) e ∙ sym (applied (check_at 4 (frames_number bytes) (ltb (length list) (12 * frames_number bytes))) [] t) in
        (went_on bytes behind (frames_listed (frames_number bytes)) Answer.refused a (refused 4 frames) is, went_on bytes behind _ (λ number place. list) a (refused 4 frames) is)

    pub list_done : ltb (length list) (12 * frames_number bytes) ≡ false
        → Lists bytes list (Ok (frames_number bytes)) (entries (frames_in bytes) ++ drop (length (entries (frames_in bytes))) list)
    unfolding list_answer list_after list_checks
    list_done t =
        let is : accepted ≡ first behind = sym (skipped (check_at 4 (frames_number bytes) (ltb (length list) (12 * frames_number bytes))) [] t ∙ accepts) in
        (went_on bytes behind (frames_listed (frames_number bytes)) Answer.refused a accepted is, went_on bytes behind _ (λ number place. list) a accepted is)

-- ---- how large a refusal's place can be

pub place_small : (bytes : List ℕ) (list n p : ℕ) → first (list_checks bytes list) ≡ refused n p → p ≤ 1000000
unfolding list_checks
place_small bytes list n p q =
    place_behind bytes _
    (λ ok m o e. last (ltb list (12 * frames_number bytes)) (frames_number bytes) m o e (omega (arith, short bytes ok, number_most bytes))) n p q
  where
    last : (b : Bool) (f n p : ℕ) → first (check_at 4 f b ∷ []) ≡ refused n p → f ≤ 1000000 → p ≤ 1000000
    last true f n p e l =
        let q : refused 4 f ≡ refused n p = sym (applied (check_at 4 f true) [] refl) ∙ e in
        let z : f ≡ p = cc in
        omega arith
    last false f n p e l =
        let q : accepted ≡ refused n p = sym (skipped (check_at 4 f false) [] refl ∙ accepts) ∙ e in
        absurd (let z : ◌≡◌ {A = ℕ} 0 1 = cc in omega arith)
