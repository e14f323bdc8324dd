-- The entries of an index, and what is read of one that was built. Assumes nothing.
use Prim.Native.Nat.{ℕ, zero, suc, ◌+◌, ◌*◌, ◌/◌, ◌^◌, ◌≤◌, ◌<◌}
use mathlib.Core.Path.{◌≡◌, refl, sym, ap, ◌∙◌}
use mathlib.Core.Bool.{Bool}
use mathlib.Core.List.{List, [], ◌++◌, append-nil}
use native.Mathlib.Omega.{arith}
use native.Mathlib.Nat.{min-le_right}
use lib.ListN.{length, get_or, take, length-append, length-take, get_or-append}
use lib.Seq.{get_or-append-add}
use Rattle.bits.specs.Bits.{number, line_bit}
use Rattle.bits.specs.Lists.{how_many}
use Rattle.bits.proofs.Laws.{by_lt, number_same}
use Rattle.bits.proofs.HowMany.{how_few}
use Rattle.lent_words.specs.Words.{word_bytes, word_at}
use Rattle.lent_words.proofs.Laws.{length_words, word_back}
use Rattle.block.specs.Block.{vector_list, is_error_vector}
use Rattle.block.proofs.Vectors.{length_vectors}
use Rattle.vector_tests.specs.Tests.{of_kind_s}
use Rattle.index.specs.Index.{entry_at, entries_to, entry_count, index_for, errors_at, starts_at}

-- how many there are, by the vector bytes
pub entry_count_lem : (bytes : List ℕ) → entry_count (vector_list bytes) ≡ length bytes / 10 / 64 + 1
entry_count_lem bytes = ap (λ (n : ℕ). n / 64 + 1) (length_vectors (length bytes / 10) bytes)

-- ---- as the code reads it

-- the numbers of entry k
pub errors_read : (index : List ℕ) (k r : ℕ) → r ≡ number 32 (λ i. line_bit index (8 * (8 * k) + i)) → r ≡ errors_at index k
unfolding word_at
errors_read index k r e =
    e ∙ number_same 32 _ _ (λ i l. let f : 8 * (8 * k) + i ≡ 8 * 4 * (2 * k) + i = omega arith in ap (line_bit index) f)

pub starts_read : (index : List ℕ) (k r : ℕ) → r ≡ number 32 (λ i. line_bit index (8 * (8 * k + 4) + i)) → r ≡ starts_at index k
unfolding word_at
starts_read index k r e =
    e ∙ number_same 32 _ _ (λ i l. let f : 8 * (8 * k + 4) + i ≡ 8 * 4 * (2 * k + 1) + i = omega arith in ap (line_bit index) f)

-- ---- what was built

module _ (vs : List (List ℕ)) where
  -- two words each
  pub length_entries : (k : ℕ) → length (entries_to vs k) ≡ 2 * k
  unfolding entries_to
  length_entries zero = refl
  length_entries (suc k) = length-append (entries_to vs k) (entry_at vs (64 * k)) ∙ omega (arith, length_entries k)

  pub length_index : length (index_for vs) ≡ 8 * entry_count vs
  unfolding index_for
  length_index = length_words 4 (entries_to vs (entry_count vs)) ∙ omega (arith, length_entries (entry_count vs))

  -- word j of entry i
  entry_word : (k i j : ℕ) → i < k → j < 2 → get_or (entries_to vs k) (2 * i + j) 0 ≡ get_or (entry_at vs (64 * i)) j 0
  unfolding entries_to
  entry_word zero i j l m = absurd (omega arith)
  entry_word (suc k) i j l m =
      by_lt i k
      (λ n. get_or-append (entries_to vs k) (entry_at vs (64 * k)) 0 (2 * i + j) (omega (arith, length_entries k)) ∙ entry_word k i j n m)
      (λ n.
      let e : i ≡ k = omega arith in
      let f : 2 * i + j ≡ length (entries_to vs k) + j = omega (arith, length_entries k) in
      ap (λ (n : ℕ). get_or (entries_to vs k ++ entry_at vs (64 * k)) n 0) f ∙ get_or-append-add (entries_to vs k) (entry_at vs (64 * k)) j 0
      ∙ ap (λ (n : ℕ). get_or (entry_at vs (64 * n)) j 0) (sym e))

  module _ (few : length vs ≤ 100000) (k : ℕ) (l : k < entry_count vs) where
    -- no number of an entry is above that of the vectors
    small : (test : List ℕ → Bool) → how_many test (take (64 * k) vs) < 2 ^ 32
    small test = omega (arith, how_few test (take (64 * k) vs), length-take (64 * k) vs, min-le_right (64 * k) (length vs))

    -- what is read of an index that was built
    pub errors_built : errors_at (index_for vs) k ≡ how_many is_error_vector (take (64 * k) vs)
    unfolding index_for
    errors_built =
        let z : 2 * k + 0 ≡ 2 * k = omega arith in
        let e : get_or (entries_to vs (entry_count vs)) (2 * k) 0 ≡ how_many is_error_vector (take (64 * k) vs) = rw z at (entry_word (entry_count vs) k 0 l (omega arith)) in
        ap (λ (b : List ℕ). word_at 4 b (2 * k)) (sym (append-nil (word_bytes 4 (entries_to vs (entry_count vs)))))
        ∙ word_back 4 (entries_to vs (entry_count vs)) [] (2 * k) (omega (arith, length_entries (entry_count vs))) (rw e (small is_error_vector)) ∙ e

    pub starts_built : starts_at (index_for vs) k ≡ how_many of_kind_s (take (64 * k) vs)
    unfolding index_for
    starts_built =
        let e = entry_word (entry_count vs) k 1 l (omega arith) in
        ap (λ (b : List ℕ). word_at 4 b (2 * k + 1)) (sym (append-nil (word_bytes 4 (entries_to vs (entry_count vs)))))
        ∙ word_back 4 (entries_to vs (entry_count vs)) [] (2 * k + 1) (omega (arith, length_entries (entry_count vs))) (rw e (small of_kind_s)) ∙ e
