-- Filling an index: after k turns the first k entries stand, and the numbers are those of the next. Assumes nothing.
use Prim.Native.Nat.{ℕ, ◌+◌, ◌*◌, ◌/◌, ◌≤◌, ◌<◌}
use mathlib.Core.Path.{◌≡◌, refl, sym, ap, ap₂, ◌∙◌}
use mathlib.Core.Bool.{Bool}
use mathlib.Core.List.{List, [], ◌∷◌, ◌++◌, append-nil}
use native.Mathlib.Omega.{arith}
use native.Mathlib.Numerals.{add-one}
use lib.ListN.{length, take, drop, length-append, length-drop}
use lib.Seq.{take_at, drop_at, drop-drop, drop-length}
use Rattle.bits.specs.Bits.{bit, cut}
use Rattle.bits.specs.Lists.{how_many}
use Rattle.bits.proofs.HowMany.{many_append}
use Rattle.line.proofs.Laws.{put_more}
use Rattle.lent_words.specs.Words.{word_bytes}
use Rattle.lent_words.proofs.Laws.{length_words, words_append}
use Rattle.block.specs.Block.{vectors_in, vector_list, is_error_vector}
use Rattle.block.proofs.Vectors.{vectors_add, take_vectors}
use Rattle.vector_tests.specs.Tests.{of_kind_s}
use Rattle.vector_tests.proofs.Parts.{list_part}
use Rattle.index.specs.Index.{entry_at, entries_to, entry_count, index_for}
use Rattle.index.proofs.Reading.{entry_count_lem, length_entries}

-- the two words of an entry, put one after the other
pub put_two : (at errors starts : ℕ) (l l₁ l₂ : List ℕ) → at + 8 ≤ length l → l₁ ≡ take at l ++ cut 8 (bit errors) 4 ++ drop (at + 4) l
    → l₂ ≡ take (at + 4) l₁ ++ cut 8 (bit starts) 4 ++ drop (at + 4 + 4) l₁ → l₂ ≡ take at l ++ word_bytes 4 (errors ∷ starts ∷ []) ++ drop (at + 8) l
unfolding cut
put_two at errors starts l l₁ l₂ h p q = put_more at 4 4 (cut 8 (bit errors) 4) (cut 8 (bit starts) 4) l l₁ l₂ refl refl (omega arith) p q

-- the vectors between two entries, as a part of the bytes
pub part : (bytes : List ℕ) (k m n : ℕ) → k < length bytes / 640 → n ≡ 640 * k → m ≡ 640 → vector_list (take m (drop n bytes)) ≡ vectors_in 64 (drop (10 * (64 * k)) bytes)
part bytes k m n l e f =
    let g : n ≡ 10 * (64 * k) = omega arith in
    ap₂ (λ (x y : ℕ). vector_list (take x (drop y bytes))) f g
    ∙ list_part 64 (drop (10 * (64 * k)) bytes) (omega (arith, length-drop (10 * (64 * k)) bytes))

module _ (bytes before : List ℕ) where
  abbrev vs : List (List ℕ)
  vs = vector_list bytes

  pub record Filled (errors starts k : ℕ) (index : List ℕ) : Type 0 where
    pub inside : k ≤ length bytes / 10 / 64
    pub written : index ≡ word_bytes 4 (entries_to vs k) ++ drop (8 * k) before
    pub errors_are : errors ≡ how_many is_error_vector (vectors_in (64 * k) bytes)
    pub starts_are : starts ≡ how_many of_kind_s (vectors_in (64 * k) bytes)

  pub filled_first : Filled 0 0 0 before
  unfolding entries_to vectors_in how_many
  filled_first = record { inside = omega arith; written = refl; errors_are = refl; starts_are = refl }

  module _ (room : length before ≡ 8 * entry_count (vector_list bytes)) (errors starts k : ℕ) (index : List ℕ) (f : Filled errors starts k index) where
    head : length (word_bytes 4 (entries_to vs k)) ≡ 8 * k
    head = length_words 4 (entries_to vs k) ∙ omega (arith, length_entries vs k)

    pub filled_length : length index ≡ length before
    filled_length =
        ap length f.written ∙ length-append (word_bytes 4 (entries_to vs k)) (drop (8 * k) before)
        ∙ omega (arith, head, length-drop (8 * k) before, room, entry_count_lem bytes, f.inside)

    -- an entry's numbers, by the vectors before it
    numbers : errors ∷ starts ∷ [] ≡ entry_at vs (64 * k)
    numbers =
        let t = take_vectors (64 * k) (length bytes / 10) bytes (omega (arith, f.inside)) in
        λ i. (f.errors_are ∙ ap (how_many is_error_vector) (sym t)) i ∷ (f.starts_are ∙ ap (how_many of_kind_s) (sym t)) i ∷ []

    -- one entry more
    pub one_entry : (next : List ℕ) → next ≡ take (8 * k) index ++ word_bytes 4 (errors ∷ starts ∷ []) ++ drop (8 * k + 8) index
        → next ≡ word_bytes 4 (entries_to vs (k + 1)) ++ drop (8 * (k + 1)) before
    unfolding entries_to
    one_entry next e =
        let t : take (8 * k) index ≡ word_bytes 4 (entries_to vs k) = ap (take (8 * k)) f.written ∙ take_at (word_bytes 4 (entries_to vs k)) (drop (8 * k) before) (8 * k) head in
        let n : 8 * k + 8 ≡ 8 * (k + 1) = omega arith in
        let d : drop (8 * k + 8) index ≡ drop (8 * (k + 1)) before =
        sym (drop-drop 8 (8 * k) index)
        ∙ ap (drop 8) (ap (drop (8 * k)) f.written ∙ drop_at (word_bytes 4 (entries_to vs k)) (drop (8 * k) before) (8 * k) head)
        ∙ drop-drop 8 (8 * k) before ∙ ap (λ (m : ℕ). drop m before) n in
        let w : word_bytes 4 (entries_to vs k) ++ word_bytes 4 (errors ∷ starts ∷ []) ≡ word_bytes 4 (entries_to vs (k + 1)) =
        ap (λ (x : List ℕ). word_bytes 4 (entries_to vs k) ++ word_bytes 4 x) numbers ∙ sym (words_append 4 (entries_to vs k) (entry_at vs (64 * k)))
        ∙ ap (λ (m : ℕ). word_bytes 4 (entries_to vs m)) (sym (add-one k)) in
        e ∙ ap₂ (λ (x y : List ℕ). x ++ word_bytes 4 (errors ∷ starts ∷ []) ++ y) t d
        ∙ ap (λ (x : List ℕ). x ++ drop (8 * (k + 1)) before) w

    -- the vectors up to the next
    more : (test : List ℕ → Bool) (m n : ℕ) → m ≡ how_many test (vectors_in (64 * k) bytes) → n ≡ how_many test (vectors_in 64 (drop (10 * (64 * k)) bytes))
        → m + n ≡ how_many test (vectors_in (64 * (k + 1)) bytes)
    more test m n p q =
        let e : 64 * k + 64 ≡ 64 * (k + 1) = omega arith in
        ap₂ ◌+◌ p q ∙ sym (many_append test (vectors_in (64 * k) bytes) (vectors_in 64 (drop (10 * (64 * k)) bytes)))
        ∙ ap (how_many test) (sym (vectors_add (64 * k) 64 bytes) ∙ ap (λ (i : ℕ). vectors_in i bytes) e)

    pub filled_next : (e s : ℕ) (next : List ℕ) → k < length bytes / 10 / 64
        → next ≡ take (8 * k) index ++ word_bytes 4 (errors ∷ starts ∷ []) ++ drop (8 * k + 8) index
        → e ≡ how_many is_error_vector (vectors_in 64 (drop (10 * (64 * k)) bytes)) → s ≡ how_many of_kind_s (vectors_in 64 (drop (10 * (64 * k)) bytes))
        → Filled (errors + e) (starts + s) (k + 1) next
    filled_next e s next l p q r =
        record {
          inside = omega arith;
          written = one_entry next p;
          errors_are = more is_error_vector errors e f.errors_are q;
          starts_are = more of_kind_s starts s f.starts_are r;
        }

    -- the last entry
    pub filled_last : (next : List ℕ) → length bytes / 10 / 64 ≤ k
        → next ≡ take (8 * k) index ++ word_bytes 4 (errors ∷ starts ∷ []) ++ drop (8 * k + 8) index → next ≡ index_for vs
    unfolding index_for
    filled_last next l e =
        let n : k + 1 ≡ entry_count vs = omega (arith, f.inside, entry_count_lem bytes) in
        let all : length before ≡ 8 * (k + 1) = omega (arith, room, n) in
        one_entry next e
        ∙ ap₂ (λ (m : ℕ) (x : List ℕ). word_bytes 4 (entries_to vs m) ++ x) n (ap (λ (m : ℕ). drop m before) (sym all) ∙ drop-length before)
        ∙ append-nil (word_bytes 4 (entries_to vs (entry_count vs)))
