-- What reading a character makes of a frame. Assumes nothing.
use Prim.Native.Nat.{ℕ, ◌+◌, ◌%◌, ◌/◌}
use mathlib.Core.Path.{◌≡◌, refl, sym, ◌∙◌}
use mathlib.Core.Bool.{Bool, true, false, not, ◌&&◌, true≢false, and-false, or-false}
use mathlib.Core.List.{List, [], ◌∷◌}
use native.Mathlib.Omega.{arith}
use lib.Dec.{eqb}
use lib.ListN.{get_or}
use borrow.Author.Tests.{eqb-true, ne_eqb}
use Rattle.refusals.proofs.Laws.{by_test}
use Rattle.frames.specs.Frames.{Character, data_octet, control_character, by_flag, lane_character, characters_of, quiet, ends_frame, up_to_end, data_octets, is_good, after_start}
use Rattle.frames.proofs.Quiet.{quiet_ends}
use Rattle.frame_reading.specs.Reading.{with_character, with_three, with_word, octets_in, good_in}
use Rattle.frame_reading.specs.declared.Reading.{Reading}

-- ---- a word that leaves a frame open is not quiet

-- once it has ended it stays so
still_ended : (r : Reading) (c : Character) → r.going ≡ false → (with_character r c).going ≡ false
unfolding with_character
still_ended r c e = rw e

ended : (r : Reading) (c : Character) → ends_frame c ≡ true → (with_character r c).going ≡ false
unfolding with_character
ended r (data_octet o) h = absurd (true≢false (sym h))
ended r (control_character c) h = go r.going refl (eqb c 0xfe) refl h
  where
    go : (b : Bool) → r.going ≡ b → (t : Bool) → eqb c 0xfe ≡ t → not t ≡ true → (with_character r (control_character c)).going ≡ false
    go b e true t h = absurd (true≢false (sym h))
    go true e false t h = rw (e, t)
    go false e false t h = rw e

pub open_loud : (r : Reading) (w : List ℕ) → (with_word r w).going ≡ true → quiet w ≡ false
unfolding with_word
open_loud r w g =
    by_test (quiet w)
    (λ q.
    let e = ended r (lane_character w 0) (quiet_ends w q) in
    absurd (true≢false (sym g ∙ still_ended _ (lane_character w 3) (still_ended _ (lane_character w 2) (still_ended _ (lane_character w 1) e)))))
    (λ q. q)

-- ---- one character

pub with_octet : (r : Reading) (b o : ℕ) → r.going ≡ true → b ≡ 0 → record r { octets = r.octets + 1 } ≡ with_character r (by_flag b o)
unfolding with_character
with_octet r b o g e = rw (g, e)

pub with_error : (r : Reading) (b o : ℕ) → r.going ≡ true → (b ≡ 0 → ⊥) → o ≡ 0xfe
    → record r { good = false } ≡ with_character r (by_flag b o)
unfolding with_character
with_error r b o g n e = rw (g, ne_eqb b 0 n, e)

pub with_end : (r : Reading) (b o : ℕ) (good : Bool) → r.going ≡ true → (b ≡ 0 → ⊥) → (o ≡ 0xfe → ⊥) → good ≡ (r.good && eqb o 0xfd)
    → record r { going = false; good = good } ≡ with_character r (by_flag b o)
unfolding with_character
with_end r b o good g n m e = rw (g, ne_eqb b 0 n, ne_eqb o 0xfe m, e)

pub with_none : (r : Reading) (c : Character) → r.going ≡ false → r ≡ with_character r c
unfolding with_character
with_none r c e = rw e

-- a word, by its control byte and its lanes
pub lane_zero : (w : List ℕ) → lane_character w 0 ≡ by_flag (get_or w 0 0 % 2) (get_or w 1 0)
lane_zero w = let a : get_or w 0 0 / 1 % 2 ≡ get_or w 0 0 % 2 = omega arith in rw a

-- four data octets
four_octets : (r : Reading) (a b c d : ℕ) → r.going ≡ true
    → record r { octets = r.octets + 4 }
    ≡ with_character (with_character (with_character (with_character r (data_octet a)) (data_octet b)) (data_octet c)) (data_octet d)
unfolding with_character
four_octets r a b c d g =
    let n : r.octets + 4 ≡ r.octets + 1 + 1 + 1 + 1 = omega arith in
    rw (g, n)

pub word_octets : (r : Reading) (w : List ℕ) → r.going ≡ true → get_or w 0 0 ≡ 0 → record r { octets = r.octets + 4 } ≡ with_word r w
unfolding with_word
word_octets r w g e = four_octets r (get_or w 1 0) (get_or w 2 0) (get_or w 3 0) (get_or w 4 0) g ∙ sym (rw (lane_zero w, e))

-- ---- what it comes to is the same before and after a character

octets_with : (r : Reading) (c : Character) (cs : List Character) → octets_in (with_character r c) cs ≡ octets_in r (c ∷ cs)
unfolding octets_in with_character up_to_end data_octets
octets_with r c cs = go r.going refl c
  where
    go : (b : Bool) → r.going ≡ b → (c : Character) → octets_in (with_character r c) cs ≡ octets_in r (c ∷ cs)
    go false e c = rw e
    go true e (data_octet o) = rw e (omega arith)
    go true e (control_character c) = rw e (by_test (eqb c 0xfe) (λ t. rw t) (λ t. rw t (omega arith)))

-- a control character that is no error character is good only as Terminate
not_both : (c : ℕ) → eqb c 0xfe ≡ true → eqb c 0xfd ≡ false
not_both c t = ne_eqb c 0xfd (λ e. let x = eqb-true c 0xfe t in omega arith)

good_with : (r : Reading) (c : Character) (cs : List Character) → good_in (with_character r c) cs ≡ good_in r (c ∷ cs)
unfolding good_in with_character up_to_end is_good
good_with r c cs = go r.going refl c
  where
    go : (b : Bool) → r.going ≡ b → (c : Character) → good_in (with_character r c) cs ≡ good_in r (c ∷ cs)
    go false e c = rw e
    go true e (data_octet o) = rw e
    go true e (control_character c) =
        rw e (by_test (eqb c 0xfe) (λ t. rw (t, not_both c t) (sym (and-false r.good))) (λ t. rw (t, or-false)))

-- the same of a word, and of the characters after a Start
pub octets_word : (r : Reading) (w : List ℕ) (ws : List (List ℕ)) → octets_in (with_word r w) (characters_of ws) ≡ octets_in r (characters_of (w ∷ ws))
unfolding with_word characters_of
octets_word r w ws = octets_with _ (lane_character w 3) _ ∙ octets_with _ (lane_character w 2) _ ∙ octets_with _ (lane_character w 1) _ ∙ octets_with r (lane_character w 0) _

pub good_word : (r : Reading) (w : List ℕ) (ws : List (List ℕ)) → good_in (with_word r w) (characters_of ws) ≡ good_in r (characters_of (w ∷ ws))
unfolding with_word characters_of
good_word r w ws = good_with _ (lane_character w 3) _ ∙ good_with _ (lane_character w 2) _ ∙ good_with _ (lane_character w 1) _ ∙ good_with r (lane_character w 0) _

pub octets_three : (r : Reading) (w : List ℕ) (ws : List (List ℕ)) → octets_in (with_three r w) (characters_of ws) ≡ octets_in r (after_start w ws)
octets_three r w ws = octets_with _ (lane_character w 3) _ ∙ octets_with _ (lane_character w 2) _ ∙ octets_with r (lane_character w 1) _

pub good_three : (r : Reading) (w : List ℕ) (ws : List (List ℕ)) → good_in (with_three r w) (characters_of ws) ≡ good_in r (after_start w ws)
good_three r w ws = good_with _ (lane_character w 3) _ ∙ good_with _ (lane_character w 2) _ ∙ good_with r (lane_character w 1) _

-- where no words are left
pub octets_end : (r : Reading) → octets_in r [] ≡ r.octets
unfolding octets_in up_to_end data_octets
octets_end r = by_test r.going (λ e. rw e (omega arith)) (λ e. rw e)

pub good_end : (r : Reading) → good_in r [] ≡ not r.going && r.good
unfolding good_in up_to_end is_good
good_end r = by_test r.going (λ e. rw e (and-false r.good)) (λ e. rw e)

-- where it has ended
pub octets_ended : (r : Reading) (cs : List Character) → r.going ≡ false → octets_in r cs ≡ r.octets
unfolding octets_in
octets_ended r cs e = rw e

pub good_ended : (r : Reading) (cs : List Character) → r.going ≡ false → good_in r cs ≡ r.good
unfolding good_in
good_ended r cs e = rw e
