-- The first word whose control byte is above 15. Assumes nothing.
use Prim.Native.Nat.{ℕ, zero, suc, ◌+◌, ◌*◌, ◌/◌, ◌%◌, ◌≤◌, ◌<◌}
use mathlib.Core.Path.{◌≡◌, refl, sym, ap, ap₂, ◌∙◌, subst}
use mathlib.Core.Bool.{Bool, true, false, not}
use mathlib.Core.List.{List}
use native.Mathlib.Omega.{arith}
use native.Mathlib.Nat.{zero-add, add-zero}
use lib.Dec.{ltb}
use lib.ListN.{length, get_or, take, drop}
use lib.Seq.{drop-drop}
use borrow.Author.Tests.{ltb-true, ltb-false}
use Rattle.std.proofs.lemmas.List.{get_or-take, get_or-drop}
use Rattle.std.specs.Prelude.{Some, None, position, cond}
use Rattle.std.specs.List.{position_or_len}
use Rattle.std.proofs.lemmas.List.Sums.{prefix_len-le-length}
use Rattle.std.specs.Simd.{first_chunks}
use Rattle.control_bytes.specs.Control.{high_from, high_control}
use Rattle.control_bytes.proofs.High.{high_none}

-- a word's control byte is above 15
abbrev pub high : List ℕ → Bool
high w = ltb 15 (get_or w 0 0)

-- n words of five bytes
abbrev words : ℕ → List ℕ → List (List ℕ)
words n bytes = first_chunks 5 n bytes

words_length : (n : ℕ) (bytes : List ℕ) → length (words n bytes) ≡ n
words_length zero bytes = refl
words_length (suc n) bytes = ap suc (words_length n (drop 5 bytes))

step : (b : Bool) (p k : ℕ) → cond b p (p + 5 + 5 * k) ≡ p + 5 * cond (not b) (1 + k) 0
step true p k = omega arith
step false p k = omega arith

-- the first control byte above 15 is that of the first such word
high_at : (n p : ℕ) (bytes : List ℕ) → high_from n p bytes ≡ p + 5 * position_or_len high (words n (drop p bytes))
unfolding high_from
high_at zero p bytes = omega arith
high_at (suc n) p bytes =
    let own : get_or (take 5 (drop p bytes)) 0 0 ≡ get_or bytes p 0 =
    get_or-take 5 (drop p bytes) 0 0 (omega arith) ∙ get_or-drop p bytes 0 0 ∙ ap (λ (i : ℕ). get_or bytes i 0) (add-zero p) in
    let rest : drop 5 (drop p bytes) ≡ drop (p + 5) bytes = drop-drop 5 p bytes in
    ap (λ (k : ℕ). cond (ltb 15 (get_or bytes p 0)) p k) (high_at n (p + 5) bytes)
    ∙ step (ltb 15 (get_or bytes p 0)) p (position_or_len high (words n (drop (p + 5) bytes)))
    ∙ ap₂ (λ (x : ℕ) (l : List ℕ). p + 5 * cond (not (ltb 15 x)) (1 + position_or_len high (words n l)) 0) (sym own) (sym rest)

chosen : (b : Bool) (m w : ℕ) → Some w ≡ cond b (Some m) None → (w ≡ m) × (b ≡ true)
chosen true m w e = (cc, refl)
chosen false m w e = cc

not_chosen : (b : Bool) (m : ℕ) → None ≡ cond b (Some m) None → b ≡ false
not_chosen true m e = cc
not_chosen false m e = refl

module _ (bytes : List ℕ) (whole : length bytes % 40 ≡ 0) where
  abbrev W : List (List ℕ)
  W = words (length bytes / 5) bytes

  abbrev first : ℕ
  first = position_or_len high W

  place : high_control bytes ≡ 5 * first
  unfolding high_control
  place = high_at (length bytes / 5) 0 bytes ∙ zero-add (5 * first)

  -- words that are all low have none
  pub all_low : ((i : ℕ) → 5 * i < length bytes → get_or bytes (5 * i) 0 < 16) → high_control bytes ≡ length bytes
  unfolding high_control
  all_low f =
      high_none (length bytes / 5) 0 bytes (λ i l. subst (λ (n : ℕ). get_or bytes n 0 ≤ 15) (sym (zero-add (5 * i))) (omega (arith, f i (omega arith))))
      ∙ omega arith

  -- the first such word has it
  pub found : (w : ℕ) → Some w ≡ position high W → (5 * w ≡ high_control bytes) × (5 * w < length bytes)
  found w e =
      let p = chosen (ltb first (length W)) first w e in
      (omega (arith, p.0, place), omega (arith, p.0, ltb-true first (length W) p.1, words_length (length bytes / 5) bytes))

  -- where there is no such word there is none
  pub not_found : None ≡ position high W → high_control bytes ≡ length bytes
  not_found e =
      omega (
        arith,
        place,
        ltb-false first (length W) (not_chosen (ltb first (length W)) first e),
        words_length (length bytes / 5) bytes,
        prefix_len-le-length (λ x. not (high x)) W,
      )
