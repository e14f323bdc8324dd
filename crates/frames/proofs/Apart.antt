-- Frames stand in order and do not overlap, one that is still open is the last, and a good one is its octets and Terminate. Assumes nothing.
use Prim.Native.Nat.{ℕ, suc, ◌+◌, ◌*◌, ◌≤◌, ◌<◌}
use mathlib.Core.Path.{◌≡◌, refl, sym, ap, ◌∙◌}
use mathlib.Core.Bool.{Bool, true, false, not, cond, ◌&&◌, ◌||◌, true≢false}
use mathlib.Core.List.{List, [], ◌∷◌, ◌++◌, map}
use native.Mathlib.Omega.{arith}
use lib.Dec.{eqb}
use lib.ListN.{length}
use borrow.Author.Tests.{eqb-true}
use Rattle.refusals.proofs.Laws.{by_test}
use Rattle.frames.specs.Frames.{Character, data_octet, control_character, lane_character, characters_of, quiet, starts, ends_frame, up_to_end, data_octets, is_good, after_start, Frame, frames_from}
use Rattle.frames.specs.Apart.{OverBefore, InOrder, FramesApart, is_open, OpenLast, OpenFrames, FewFrames, GoodFrames}
use Rattle.frames.proofs.Quiet.{and_both, quiet_ends, start_loud}

-- ---- how far a frame reaches

-- one character more
reach_more : (c : Character) (cs : List Character) → length (up_to_end (c ∷ cs)) ≤ 1 + length (up_to_end cs)
unfolding up_to_end
reach_more c cs = go (ends_frame c)
  where
    go : (b : Bool) → suc (length (cond b [] (up_to_end cs))) ≤ 1 + length (up_to_end cs)
    go true = omega arith
    go false = omega arith

-- a word more
reach_word : (w : List ℕ) (ws : List (List ℕ)) → length (up_to_end (characters_of (w ∷ ws))) ≤ 4 + length (up_to_end (characters_of ws))
unfolding characters_of
reach_word w ws =
    omega (
      arith,
      reach_more (lane_character w 0) (lane_character w 1 ∷ lane_character w 2 ∷ lane_character w 3 ∷ characters_of ws),
      reach_more (lane_character w 1) (lane_character w 2 ∷ lane_character w 3 ∷ characters_of ws),
      reach_more (lane_character w 2) (lane_character w 3 ∷ characters_of ws),
      reach_more (lane_character w 3) (characters_of ws),
    )

reach_start : (w : List ℕ) (ws : List (List ℕ)) → length (up_to_end (after_start w ws)) ≤ 3 + length (up_to_end (characters_of ws))
reach_start w ws =
    omega (
      arith,
      reach_more (lane_character w 1) (lane_character w 2 ∷ lane_character w 3 ∷ characters_of ws),
      reach_more (lane_character w 2) (lane_character w 3 ∷ characters_of ws),
      reach_more (lane_character w 3) (characters_of ws),
    )

-- a quiet word: no further than its first character
reach_quiet : (w : List ℕ) (ws : List (List ℕ)) → quiet w ≡ true → length (up_to_end (characters_of (w ∷ ws))) ≡ 1
unfolding characters_of up_to_end
reach_quiet w ws q = rw (quiet_ends w q)

-- ---- the frames after a word

-- they begin at a character from n on
abbrev From : ℕ → List Frame → Type 0
From n [] = Unit
From n (f ∷ fs) = (n ≤ 4 * f.word) × From n fs

from_less : (m n : ℕ) → m ≤ n → (fs : List Frame) → From n fs → From m fs
from_less m n h [] p = tt
from_less m n h (f ∷ fs) p = (omega (arith, p.0), from_less m n h fs p.1)

-- none begins before the first word
from_first : (before : Bool) (k : ℕ) (ws : List (List ℕ)) → From (4 * k) (frames_from before k ws)
unfolding frames_from
from_first before k [] = tt
from_first before k (w ∷ ws) = go (before && starts w) (from_less (4 * k) (4 * (k + 1)) (omega arith) (frames_from (quiet w) (k + 1) ws) (from_first (quiet w) (k + 1) ws))
  where
    go : (b : Bool) → From (4 * k) (frames_from (quiet w) (k + 1) ws)
        → From (4 * k) (cond b (record { word = k; characters = up_to_end (after_start w ws) } ∷ []) [] ++ frames_from (quiet w) (k + 1) ws)
    go true p = (omega arith, p)
    go false p = p

-- where a frame is open, none begins before it is over
from_open : (k : ℕ) (ws : List (List ℕ)) → From (4 * k + length (up_to_end (characters_of ws))) (frames_from false k ws)
unfolding frames_from
from_open k [] = tt
from_open k (w ∷ ws) =
    by_test (quiet w)
    (λ q. from_less _ (4 * (k + 1)) (omega (arith, reach_quiet w ws q)) (frames_from (quiet w) (k + 1) ws) (from_first (quiet w) (k + 1) ws))
    (λ q. rw q (from_less _ (4 * (k + 1) + length (up_to_end (characters_of ws))) (omega (arith, reach_word w ws)) (frames_from false (k + 1) ws) (from_open (k + 1) ws)))

over : (f : Frame) (n : ℕ) → 4 * f.word + length f.characters < n → (fs : List Frame) → From n fs → OverBefore f fs
over f n h [] p = tt
over f n h (g ∷ gs) p = (omega (arith, p.0), over f n h gs p.1)

-- ---- in order

in_order : (before : Bool) (k : ℕ) (ws : List (List ℕ)) → InOrder (frames_from before k ws)
unfolding frames_from
in_order before k [] = tt
in_order before k (w ∷ ws) = go (before && starts w) refl (in_order (quiet w) (k + 1) ws)
  where
    go : (b : Bool) → (before && starts w) ≡ b → InOrder (frames_from (quiet w) (k + 1) ws) → InOrder (cond b (record { word = k; characters = up_to_end (after_start w ws) } ∷ []) [] ++ frames_from (quiet w) (k + 1) ws)
    go true e p =
        let q = start_loud w (and_both before (starts w) e).1 in
        let f : From (4 * (k + 1) + length (up_to_end (characters_of ws))) (frames_from (quiet w) (k + 1) ws) = rw q (from_open (k + 1) ws) in
        (over (record { word = k; characters = up_to_end (after_start w ws) }) _ (omega (arith, reach_start w ws)) (frames_from (quiet w) (k + 1) ws) f, p)
    go false e p = p

pub frames_apart : FramesApart
frames_apart words = in_order false 0 words

-- ---- one that is still open is the last

-- a character before it
open_more : (c : Character) (cs : List Character) → is_open (up_to_end (c ∷ cs)) ≡ true → (ends_frame c ≡ false) × (is_open (up_to_end cs) ≡ true)
unfolding up_to_end
open_more c cs h = go (ends_frame c) h
  where
    go : (b : Bool) → (not b && is_open (cond b [] (up_to_end cs))) ≡ true → (b ≡ false) × (is_open (up_to_end cs) ≡ true)
    go true h = absurd (true≢false (sym h))
    go false h = (refl, h)

-- inside it no frame begins, up to the end
open_none : (k : ℕ) (ws : List (List ℕ)) → is_open (up_to_end (characters_of ws)) ≡ true → frames_from false k ws ≡ []
unfolding frames_from characters_of
open_none k [] h = refl
open_none k (w ∷ ws) h =
    let a = open_more (lane_character w 0) _ h in
    let b = open_more (lane_character w 1) _ a.1 in
    let c = open_more (lane_character w 2) _ b.1 in
    let d = open_more (lane_character w 3) (characters_of ws) c.1 in
    by_test (quiet w)
    (λ q. absurd (true≢false (sym (quiet_ends w q) ∙ a.0)))
    (λ q. rw q (open_none (k + 1) ws d.1))

open_last : (before : Bool) (k : ℕ) (ws : List (List ℕ)) → OpenLast (frames_from before k ws)
unfolding frames_from
open_last before k [] = tt
open_last before k (w ∷ ws) = go (before && starts w) refl (open_last (quiet w) (k + 1) ws)
  where
    go : (b : Bool) → (before && starts w) ≡ b → OpenLast (frames_from (quiet w) (k + 1) ws)
        → OpenLast (cond b (record { word = k; characters = up_to_end (after_start w ws) } ∷ []) [] ++ frames_from (quiet w) (k + 1) ws)
    go true e p =
        let q = start_loud w (and_both before (starts w) e).1 in (
          λ o.
              let a = open_more (lane_character w 1) _ o in
              let b = open_more (lane_character w 2) _ a.1 in
              let c = open_more (lane_character w 3) (characters_of ws) b.1 in
              rw q (open_none (k + 1) ws c.1),
          p,
        )
    go false e p = p

pub open_frames : OpenFrames
open_frames words = open_last false 0 words

-- ---- at most every second word

abbrev one_for : Bool → ℕ
one_for true = 1
one_for false = 0

few : (before : Bool) (k : ℕ) (ws : List (List ℕ)) → 2 * length (frames_from before k ws) ≤ length ws + one_for before
unfolding frames_from
few before k [] = omega arith
few before k (w ∷ ws) = go before (starts w) refl (quiet w) refl (few (quiet w) (k + 1) ws)
  where
    go : (b s : Bool) → starts w ≡ s → (q : Bool) → quiet w ≡ q → 2 * length (frames_from (quiet w) (k + 1) ws) ≤ length ws + one_for (quiet w)
        → 2 * length (cond (b && s) (record { word = k; characters = up_to_end (after_start w ws) } ∷ []) [] ++ frames_from (quiet w) (k + 1) ws) ≤ suc (length ws) + one_for b
    go true true e q f h =
        let l = start_loud w e in
        let z : one_for (quiet w) ≡ 0 = ap one_for l in
        omega arith
    go true false e true f h =
        let z : one_for (quiet w) ≡ 1 = ap one_for f in
        omega arith
    go true false e false f h =
        let z : one_for (quiet w) ≡ 0 = ap one_for f in
        omega arith
    go false s e true f h =
        let z : one_for (quiet w) ≡ 1 = ap one_for f in
        omega arith
    go false s e false f h =
        let z : one_for (quiet w) ≡ 0 = ap one_for f in
        omega arith

pub few_frames : FewFrames
few_frames words = omega (arith, few false 0 words)

-- ---- a good frame

good_octets : (cs : List Character) → is_good (up_to_end cs) ≡ true → up_to_end cs ≡ map data_octet (data_octets (up_to_end cs)) ++ (control_character 0xfd ∷ [])
unfolding up_to_end is_good data_octets
good_octets [] g = absurd (true≢false (sym g))
good_octets (data_octet o ∷ cs) g = ap (λ (l : List Character). data_octet o ∷ l) (good_octets cs g)
good_octets (control_character c ∷ cs) g = go (eqb c 0xfd) refl (eqb c 0xfe) refl g
  where
    go : (t : Bool) → eqb c 0xfd ≡ t → (e : Bool) → eqb c 0xfe ≡ e → (t || not e && is_good (cond (not e) [] (up_to_end cs))) ≡ true
        → control_character c ∷ cond (not (eqb c 0xfe)) [] (up_to_end cs)
        ≡ map data_octet (data_octets (cond (not (eqb c 0xfe)) [] (up_to_end cs))) ++ (control_character 0xfd ∷ [])
    go true t e f g =
        let x = eqb-true c 0xfd t in
        rw x
    go false t true f g = absurd (true≢false (sym g))
    go false t false f g = absurd (true≢false (sym g))

pub good_frames : GoodFrames
good_frames after g = good_octets after g
