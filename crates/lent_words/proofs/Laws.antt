-- Laws of checks with one more among them, and of words in a slice. Assumes nothing.
use Prim.Native.Nat.{ℕ, zero, suc, zero-le, ◌+◌, ◌*◌, ◌^◌, ◌≤◌, ◌<◌}
use mathlib.Core.Path.{◌≡◌, refl, sym, ap, ap₂, ◌∙◌}
use mathlib.Core.Bool.{Bool, true, false, cond}
use mathlib.Core.List.{List, [], ◌∷◌, ◌++◌, append_assoc, append-nil}
use native.Mathlib.Omega.{arith}
use native.Mathlib.Nat.{mul-suc, mul-zero, zero-add, le_of_suc-le-suc, not-suc-le-zero}
use native.Mathlib.Numerals.{add-one}
use lib.ListN.{length, get_or, take, drop, replicate, length-append, replicate-append-replicate}
use lib.Seq.{take_at, drop_at, drop-drop, take-suc, take_all, length-take-le}
use borrow.Author.Tests.{lt-ltb, le-ltb}
use Rattle.bits.specs.Bits.{bit, number, stream_bit, line_bit, cut}
use Rattle.bits.proofs.Laws.{length_cut, bit_lt, is_number, number_same, stream_cut}
use Rattle.bits.proofs.Lists.{stream_left, stream_right}
use Rattle.refusals.specs.First.{Check, check, Verdict, accepted, refused, first, by_verdict}
use Rattle.refusals.proofs.Laws.{skipped}
use Rattle.lent_words.specs.Words.{result_of, one_more_after, word_at, word_bytes, too_short, summary_with}

-- one more check that does not apply changes nothing
pub head_first : (c : Check) (cs ds : List Check) → first cs ≡ first ds → first (c ∷ cs) ≡ first (c ∷ ds)
unfolding first
head_first c cs ds e = ap (λ (v : Verdict). cond c.applies (refused c.number c.place) v) e

pub first_after : (k : ℕ) (c : Check) (cs : List Check) → c.applies ≡ false → first (one_more_after k c cs) ≡ first cs
first_after zero c cs e = skipped c cs e
first_after (suc k) c [] e = skipped c [] e
first_after (suc k) c (d ∷ cs) e = head_first d (one_more_after k c cs) cs (first_after k c cs e)

-- a summary that is long enough
pub long_first : (k n bytes : ℕ) (cs : List Check) → 8 * n ≤ bytes → first (one_more_after k (check 4 (too_short 8 n bytes)) cs) ≡ first cs
long_first k n bytes cs l = first_after k (check 4 (too_short 8 n bytes)) cs (le-ltb bytes (8 * n) l)

-- a refusal leaves what it finds
pub kept : {A : Type 0} (v : Verdict) (success before : A)
    → by_verdict v (by_verdict v success (λ n p. before)) (λ n p. before) ≡ by_verdict v success (λ n p. before)
kept accepted success before = refl
kept (refused n p) success before = refl

-- ---- a refusal's place

-- no check has one
abbrev pub Placeless : List Check → Type 0
Placeless [] = Unit
Placeless (c ∷ cs) = (c.place ≡ 0) × Placeless cs

place_row : (b : Bool) (m q n p : ℕ) (v : Verdict) → q ≡ 0 → (v ≡ refused n p → p ≡ 0) → cond b (refused m q) v ≡ refused n p → p ≡ 0
place_row true m q n p v z h e = let w : q ≡ p = cc in omega arith
place_row false m q n p v z h e = h e

-- so a refusal's place is 0
pub place_zero : (cs : List Check) → Placeless cs → (n p : ℕ) → first cs ≡ refused n p → p ≡ 0
unfolding first
place_zero [] k n p e = absurd (let z : ◌≡◌ {A = ℕ} 0 1 = cc in omega arith)
place_zero (c ∷ cs) k n p e = place_row c.applies c.number c.place n p (first cs) k.0 (place_zero cs k.1 n p) e

-- ---- a result

-- by its verdict
pub verdict_result : (v : Verdict) → result_of v ≡ by_verdict v 0 (λ number place. number + 256 * place)
verdict_result accepted = refl
verdict_result (refused number place) = refl

-- ---- a result of 0

-- no check has number 0
abbrev pub Numbered : List Check → Type 0
Numbered [] = Unit
Numbered (c ∷ cs) = (0 < c.number) × Numbered cs

by_row : (b : Bool) (m q n p : ℕ) (v : Verdict) → 0 < m → (v ≡ refused n p → 0 < n) → cond b (refused m q) v ≡ refused n p → 0 < n
by_row true m q n p v l h e = let z : m ≡ n = cc in omega arith
by_row false m q n p v l h e = h e

-- so a refusal's result is above 0
pub refusal_above : (cs : List Check) → Numbered cs → (n p : ℕ) → first cs ≡ refused n p → 0 < n
unfolding first
refusal_above [] k n p e = absurd (let z : ◌≡◌ {A = ℕ} 0 1 = cc in omega arith)
refusal_above (c ∷ cs) k n p e = by_row c.applies c.number c.place n p (first cs) k.0 (refusal_above cs k.1 n p) e

-- and 0 is a success
pub result_zero : (cs : List Check) → Numbered cs → 0 ≡ result_of (first cs) → first cs ≡ accepted
result_zero cs k e = go (first cs) refl e
  where
    go : (v : Verdict) → first cs ≡ v → 0 ≡ result_of v → first cs ≡ accepted
    go accepted h e = h
    go (refused n p) h e = absurd (omega (arith, refusal_above cs k n p h))

-- ---- a summary's bytes

pub summary_short : (n : ℕ) (words summary : List ℕ) → length summary < 8 * n → summary_with n words summary ≡ summary
unfolding summary_with
summary_short n words summary l = rw (lt-ltb (length summary) (8 * n) l)

pub summary_long : (n : ℕ) (words summary : List ℕ) → 8 * n ≤ length summary → summary_with n words summary ≡ word_bytes 8 words ++ drop (8 * n) summary
unfolding summary_with
summary_long n words summary l = rw (le-ltb (length summary) (8 * n) l)

-- words told to a summary that is too short or long enough for them
pub told_short : (words summary : List ℕ) → length summary < 8 * length words
    → (◌≡◌ {A = ℕ} 4 (cond (too_short 8 (length words) (length summary)) 4 0)) × (summary ≡ summary_with (length words) words summary)
told_short words summary h = let t = lt-ltb (length summary) (8 * length words) h in (rw t, sym (summary_short (length words) words summary h))

pub told_long : (words summary after : List ℕ) → 8 * length words ≤ length summary → after ≡ word_bytes 8 words ++ drop (8 * length words) summary
    → (◌≡◌ {A = ℕ} 0 (cond (too_short 8 (length words) (length summary)) 4 0)) × (after ≡ summary_with (length words) words summary)
told_long words summary after h put = let t = le-ltb (length summary) (8 * length words) h in (rw t, put ∙ sym (summary_long (length words) words summary h))

pub length_words : (k : ℕ) (ws : List ℕ) → length (word_bytes k ws) ≡ k * length ws
length_words k [] = omega arith
length_words k (w ∷ ws) =
    length-append (cut 8 (bit w) k) (word_bytes k ws) ∙ omega (arith, length_cut 8 k (bit w), length_words k ws, mul-suc k (length ws))

-- words of zero are bytes of zero
pub zero_words : (n : ℕ) → word_bytes 8 (replicate n 0) ≡ replicate (8 * n) 0
unfolding cut number bit
zero_words zero = refl
zero_words (suc n) =
    ap (λ (l : List ℕ). replicate 8 0 ++ l) (zero_words n)
    ∙ replicate-append-replicate 8 (8 * n) 0
    ∙ ap (λ (k : ℕ). replicate k 0) (let e : 8 + 8 * n ≡ 8 * suc n = omega arith in e)

-- of two lists of words, one after the other
pub words_append : (k : ℕ) (us ws : List ℕ) → word_bytes k (us ++ ws) ≡ word_bytes k us ++ word_bytes k ws
words_append k [] ws = refl
words_append k (u ∷ us) ws =
    ap (λ (l : List ℕ). cut 8 (bit u) k ++ l) (words_append k us ws) ∙ sym (append_assoc (cut 8 (bit u) k) (word_bytes k us) (word_bytes k ws))

-- ---- words put one after the other

-- i words are put, and the rest of the summary stands
pub record Put (before words now : List ℕ) (i : ℕ) : Type 0 where
  pub inside : i ≤ length words
  pub bytes : now ≡ word_bytes 8 (take i words) ++ drop (8 * i) before
  pub same : length now ≡ length before

module _ (before words : List ℕ) (room : 8 * length words ≤ length before) where
  pub put_first : Put before words before 0
  put_first = record { inside = zero-le; bytes = refl; same = refl }

  -- one more word, after those that are there
  pub put_next : (now next : List ℕ) (i : ℕ) → i < length words → next ≡ take (8 * i) now ++ cut 8 (bit (get_or words i 0)) 8 ++ drop (8 * i + 8) now
      → length next ≡ length now → Put before words now i → Put before words next (i + 1)
  put_next now next i l e m p = record { inside = omega arith; bytes = bytes; same = m ∙ p.same }
    where
      n : length (word_bytes 8 (take i words)) ≡ 8 * i
      n = length_words 8 (take i words) ∙ ap (λ (k : ℕ). 8 * k) (length-take-le i words p.inside)

      head : take (8 * i) now ≡ word_bytes 8 (take i words)
      head = ap (take (8 * i)) p.bytes ∙ take_at (word_bytes 8 (take i words)) (drop (8 * i) before) (8 * i) n

      rest : drop (8 * i + 8) now ≡ drop (8 * (i + 1)) before
      rest =
          let k : 8 * i + 8 ≡ 8 * (i + 1) = omega arith in
          sym (drop-drop 8 (8 * i) now)
          ∙ ap (drop 8) (ap (drop (8 * i)) p.bytes ∙ drop_at (word_bytes 8 (take i words)) (drop (8 * i) before) (8 * i) n)
          ∙ drop-drop 8 (8 * i) before
          ∙ ap (λ (n : ℕ). drop n before) k

      more : word_bytes 8 (take (i + 1) words) ≡ word_bytes 8 (take i words) ++ cut 8 (bit (get_or words i 0)) 8
      more = ap (λ (k : ℕ). word_bytes 8 (take k words)) (add-one i) ∙ ap (word_bytes 8) (take-suc words i 0 l) ∙ words_append 8 (take i words) (get_or words i 0 ∷ []) ∙ ap (λ (l : List ℕ). word_bytes 8 (take i words) ++ l) (append-nil (cut 8 (bit (get_or words i 0)) 8))

      bytes : next ≡ word_bytes 8 (take (i + 1) words) ++ drop (8 * (i + 1)) before
      bytes =
          e ∙ ap₂ (λ (x y : List ℕ). x ++ cut 8 (bit (get_or words i 0)) 8 ++ y) head rest
          ∙ ap (λ (x : List ℕ). x ++ drop (8 * (i + 1)) before) (sym more)

  pub put_done : (now : List ℕ) (i : ℕ) → length words ≤ i → Put before words now i → now ≡ word_bytes 8 words ++ drop (8 * length words) before
  put_done now i l p =
      let n : i ≡ length words = omega (arith, p.inside) in
      p.bytes ∙ ap₂ (λ (ws : List ℕ) (k : ℕ). word_bytes 8 ws ++ drop (8 * k) before) (take_all i words l) n

-- ---- a word that was put is found again, whatever its width

pub word_back : (k : ℕ) (ws rest : List ℕ) (i : ℕ) → i < length ws → get_or ws i 0 < 2 ^ (8 * k) → word_at k (word_bytes k ws ++ rest) i ≡ get_or ws i 0
unfolding word_at line_bit
word_back k [] rest i l b = absurd (not-suc-le-zero l)
word_back k (w ∷ ws) rest zero l b =
    sym
    (is_number (8 * k) w _ b
    (λ j m.
    let e : 8 * k * 0 + j ≡ j = ap (λ (n : ℕ). n + j) (mul-zero (8 * k)) ∙ zero-add j in
    sym
    (ap₂ (stream_bit 8) (append_assoc (cut 8 (bit w) k) (word_bytes k ws) rest) e
    ∙ stream_left 8 (omega arith) (cut 8 (bit w) k) (word_bytes k ws ++ rest) j (omega (arith, length_cut 8 k (bit w)))
    ∙ stream_cut 8 (omega arith) k (bit w) (bit_lt w) j (omega arith))))
word_back k (w ∷ ws) rest (suc i) l b =
    number_same (8 * k) _ _
    (λ j m.
    let e : 8 * k * suc i + j ≡ 8 * length (cut 8 (bit w) k) + (8 * k * i + j) = omega (arith, length_cut 8 k (bit w), mul-suc (8 * k) i) in
    ap₂ (stream_bit 8) (append_assoc (cut 8 (bit w) k) (word_bytes k ws) rest) e
    ∙ stream_right 8 (omega arith) (cut 8 (bit w) k) (word_bytes k ws ++ rest) (8 * k * i + j))
    ∙ word_back k ws rest i (le_of_suc-le-suc l) b
