-- A state that was put into bytes comes back. Assumes nothing.
use Prim.Native.Nat.{ℕ, ◌+◌, ◌*◌, ◌≤◌, ◌<◌}
use mathlib.Core.Path.{◌≡◌, refl, ap, ◌∙◌}
use mathlib.Core.Bool.{Bool, true, false}
use mathlib.Core.List.{List, ◌++◌}
use native.Mathlib.Omega.{arith}
use borrow.Author.Count.{below_more}
use lib.ListN.{length, get_or, drop, set}
use lib.Seq.{get_or-set_same, get_or-set_other}
use Rattle.bits.specs.Bits.{number, line_bit}
use Rattle.bits.proofs.Laws.{Words, number_same}
use Rattle.bits.proofs.Lists.{words_lt}
use Rattle.lent_words.specs.Words.{word_at, word_bytes, flag_word, yes}
use Rattle.lent_words.proofs.Laws.{word_back}
use Rattle.kept_state.specs.declared.State.{State}
use Rattle.stored.specs.Stored.{state_words, state_by, state_in, stored_in}

-- a state depends on its words alone
pub state_same : (f g : ℕ → ℕ) → ((i : ℕ) → i < 29 → f i ≡ g i) → state_by f ≡ state_by g
state_same f g e =
    let at : (i : ℕ) → i < 29 → f i ≡ g i = e in
    rw (
      at 0 (omega arith),
      at 1 (omega arith),
      at 2 (omega arith),
      at 3 (omega arith),
      at 4 (omega arith),
      at 5 (omega arith),
      at 6 (omega arith),
      at 7
          (omega arith),
      at 8 (omega arith),
      at 9 (omega arith),
      at 10 (omega arith),
      at 11 (omega arith),
      at 12 (omega arith),
      at 13 (omega arith),
      at 14
          (omega arith),
      at 15 (omega arith),
      at 16 (omega arith),
      at 17 (omega arith),
      at 18 (omega arith),
      at 19 (omega arith),
      at 20 (omega arith),
      at 21
          (omega arith),
      at 22 (omega arith),
      at 23 (omega arith),
      at 24 (omega arith),
      at 25 (omega arith),
      at 26 (omega arith),
      at 27 (omega arith),
      at 28
          (omega arith),
    )

-- a flag comes back
flag_back : (b : Bool) → yes (flag_word b) ≡ b
flag_back true = refl
flag_back false = refl

-- a state by its own words
words_back : (s : State) → state_by (λ i. get_or (state_words s) i 0) ≡ s
words_back s = rw (flag_back s.closed, flag_back s.lock.locked, flag_back s.rate.high, flag_back s.skip, flag_back s.have, flag_back s.held.on)

-- what was stored is what is loaded
pub stored_back : (s : State) (bytes : List ℕ) → Words 64 (state_words s) → state_in (stored_in s bytes) ≡ s
unfolding state_in stored_in
stored_back s bytes w =
    state_same (word_at 8 (word_bytes 8 (state_words s) ++ drop 232 bytes)) (λ i. get_or (state_words s) i 0)
    (λ i l. word_back 8 (state_words s) (drop 232 bytes) i l (words_lt 64 w i))
    ∙ words_back s

-- ---- the loop that loads them

-- a word that was loaded
pub loaded : (bytes : List ℕ) (i r : ℕ) → r ≡ number 64 (λ j. line_bit bytes (8 * (8 * i) + j)) → r ≡ word_at 8 bytes i
unfolding word_at
loaded bytes i r e =
    e ∙ number_same 64 (λ j. line_bit bytes (8 * (8 * i) + j)) (λ j. line_bit bytes (64 * i + j)) (λ j m. let n : 8 * (8 * i) + j ≡ 64 * i + j = omega arith in ap (line_bit bytes) n)

-- one more of them
pub taken_more : (bytes w : List ℕ) (i r : ℕ) → i < length w → r ≡ word_at 8 bytes i → ((k : ℕ) → k < i → get_or w k 0 ≡ word_at 8 bytes k)
    → (k : ℕ) → k < i + 1 → get_or (set w i r) k 0 ≡ word_at 8 bytes k
taken_more bytes w i r l e all =
    below_more (λ k. get_or (set w i r) k 0 ≡ word_at 8 bytes k) i (λ k m. get_or-set_other w i k r 0 (λ q. omega arith) ∙ all k m)
    (get_or-set_same w i r 0 l ∙ e)

-- all of them
pub taken_all : (bytes w : List ℕ) (i : ℕ) → 29 ≤ i → ((k : ℕ) → k < i → get_or w k 0 ≡ word_at 8 bytes k) → state_by (λ k. get_or w k 0) ≡ state_in bytes
unfolding state_in
taken_all bytes w i l all = state_same (λ k. get_or w k 0) (word_at 8 bytes) (λ k m. all k (omega arith))
