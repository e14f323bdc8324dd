-- Reading inside a frame, word by word. Assumes nothing.
use Prim.Native.Nat.{ℕ, ◌+◌, ◌*◌, ◌/◌, ◌≤◌, ◌<◌}
use mathlib.Core.Path.{◌≡◌, refl, sym, ap, ◌∙◌}
use mathlib.Core.Bool.{Bool, true, false, not, ◌&&◌}
use mathlib.Core.List.{List}
use native.Mathlib.Omega.{arith}
use native.Mathlib.Nat.{zero-add}
use lib.ListN.{length}
use Rattle.frames.specs.Frames.{Character, characters_of, starts, up_to_end, data_octets, is_good}
use Rattle.frames.specs.Words.{nth_word, words_from, quiet_before, frames_left}
use Rattle.frame_reading.specs.Reading.{with_three, with_word, octets_in, good_in, after_start_at, ReadsFrame}
use Rattle.frame_reading.specs.declared.Reading.{Reading}
use Rattle.frames.proofs.Words.{words_step, words_end, quiet_next, left_none}
use Rattle.frames.proofs.Quiet.{and_both, start_loud}
use Rattle.frame_reading.proofs.Characters.{open_loud, octets_three, good_three, octets_word, good_word, octets_end, good_end, octets_ended, good_ended}

-- The frame that began in word k was read up to word j: what it comes to, and that no other frame began meanwhile.
pub record InFrame (bytes : List ℕ) (k : ℕ) (r : Reading) (j : ℕ) : Type 0 where
  pub later : k < j
  pub within : j ≤ length bytes / 5
  pub small : r.octets ≤ 4 * j
  pub octets : octets_in r (characters_of (words_from bytes j)) ≡ length (data_octets (up_to_end (after_start_at bytes k)))
  pub good : good_in r (characters_of (words_from bytes j)) ≡ is_good (up_to_end (after_start_at bytes k))
  pub rest : frames_left bytes (k + 1) ≡ frames_left bytes j
  pub loud : r.going ≡ true → quiet_before bytes j ≡ false

-- before the first character
abbrev pub fresh : Reading
fresh = record { going = true; octets = 0; good = true }

fresh_octets : (cs : List Character) → octets_in fresh cs ≡ length (data_octets (up_to_end cs))
unfolding octets_in
fresh_octets cs = zero-add (length (data_octets (up_to_end cs)))

fresh_good : (cs : List Character) → good_in fresh cs ≡ is_good (up_to_end cs)
unfolding good_in
fresh_good cs = refl

pub in_first : (bytes : List ℕ) (k : ℕ) (r : Reading) → k < length bytes / 5 → (quiet_before bytes k && starts (nth_word bytes k)) ≡ true
    → r ≡ with_three fresh (nth_word bytes k) → r.octets ≤ 3 → InFrame bytes k r (k + 1)
in_first bytes k r h b e s =
    let w = nth_word bytes k in
    let ws = words_from bytes (k + 1) in
    record {
      later = omega arith;
      within = omega arith;
      small = omega arith;
      octets = ap (λ (x : Reading). octets_in x (characters_of ws)) e ∙ octets_three fresh w ws ∙ fresh_octets (after_start_at bytes k);
      good = ap (λ (x : Reading). good_in x (characters_of ws)) e ∙ good_three fresh w ws ∙ fresh_good (after_start_at bytes k);
      rest = refl;
      loud = λ g. quiet_next bytes k ∙ start_loud w (and_both (quiet_before bytes k) (starts w) b).1;
    }

-- a word more
pub in_turn : (bytes : List ℕ) (k j : ℕ) (r s : Reading) → InFrame bytes k r j → j < length bytes / 5 → r.going ≡ true
    → s ≡ with_word r (nth_word bytes j) → s.octets ≤ r.octets + 4 → InFrame bytes k s (j + 1)
in_turn bytes k j r s i h g e n =
    let w = nth_word bytes j in
    let ws = words_from bytes (j + 1) in
    let st = words_step bytes j h in
    let q : (quiet_before bytes j && starts w) ≡ false = ap (λ (b : Bool). b && starts w) (i.loud g) in
    record {
      later = omega arith;
      within = omega arith;
      small = omega arith;
      octets = ap (λ (x : Reading). octets_in x (characters_of ws)) e ∙ octets_word r w ws ∙ ap (λ (l : List (List ℕ)). octets_in r (characters_of l)) (sym st) ∙ i.octets;
      good = ap (λ (x : Reading). good_in x (characters_of ws)) e ∙ good_word r w ws ∙ ap (λ (l : List (List ℕ)). good_in r (characters_of l)) (sym st) ∙ i.good;
      rest = i.rest ∙ left_none bytes j h q;
      loud = λ t. quiet_next bytes j ∙ open_loud r w (ap (λ (x : Reading). x.going) (sym e) ∙ t);
    }

-- it has ended
pub in_ended : (bytes : List ℕ) (k j : ℕ) (r : Reading) → InFrame bytes k r j → r.going ≡ false
    → ReadsFrame bytes k (record { octets = r.octets; good = r.good; next = j })
in_ended bytes k j r i g =
    record {
      octets = sym (octets_ended r (characters_of (words_from bytes j)) g) ∙ i.octets;
      good = sym (good_ended r (characters_of (words_from bytes j)) g) ∙ i.good;
      later = i.later;
      within = i.within;
      rest = i.rest;
    }

-- no words are left
pub in_done : (bytes : List ℕ) (k j : ℕ) (r : Reading) (good : Bool) → InFrame bytes k r j → length bytes / 5 ≤ j → good ≡ (not r.going && r.good)
    → ReadsFrame bytes k (record { octets = r.octets; good = good; next = length bytes / 5 })
unfolding characters_of
in_done bytes k j r good i h e =
    let n = words_end bytes j h in
    let l : j ≡ length bytes / 5 = omega (arith, i.within) in
    record {
      octets = sym (ap (λ (ws : List (List ℕ)). octets_in r (characters_of ws)) n ∙ octets_end r) ∙ i.octets;
      good = e ∙ sym (ap (λ (ws : List (List ℕ)). good_in r (characters_of ws)) n ∙ good_end r) ∙ i.good;
      later = omega (arith, i.later);
      within = omega arith;
      rest = i.rest ∙ ap (λ (x : ℕ). frames_left bytes x) l;
    }
