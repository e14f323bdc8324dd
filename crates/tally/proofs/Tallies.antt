-- Tallies of vectors, one after the other. Assumes nothing.
use Rattle.std.proofs.Common.{ℕ, ◌+◌, ◌*◌, ◌≤◌, ◌≡◌, sym, ap, ap₂, ◌∙◌, Bool, true, false, refl, cond, List, length, get_or, take, drop, length-drop, arith}
use native.Mathlib.Nat.{add-zero}
use lib.ListN.{get_or-eq_default, length-take}
use lib.Seq.{get_or-take, get_or-drop}
use Rattle.control_bytes.specs.Control.{Low}
use Rattle.bits.specs.Lists.{how_many}
use Rattle.bits.proofs.Laws.{by_lt}
use Rattle.bits.proofs.HowMany.{many_append, how_few, one_le}
use Rattle.bits.proofs.Tests.{is_true}
use Rattle.lent_words.specs.Words.{flag_word}
use Rattle.block.specs.Block.{vectors_in, error_vector, is_error_vector, is_s}
use Rattle.block.specs.declared.Edition.TheVariants.{New}
use Rattle.block.specs.declared.Kind.{Kind}
use Rattle.block.proofs.Reading.{same_is}
use Rattle.block.proofs.Carried.{kind_of_error}
use Rattle.block.proofs.Vectors.{vectors_add, length_vectors}
use Rattle.vector_tests.specs.Tests.{of_kind_s}
use Rattle.vector_tests.proofs.Starts.{no_start_lem}
use Rattle.tally.specs.Tally.{tally_of}
use Rattle.tally.specs.declared.Tally.{Tally}

-- not more than there are
pub few : (test : List ℕ → Bool) (n : ℕ) (bytes : List ℕ) → how_many test (vectors_in n bytes) ≤ n
few test n bytes = omega (arith, how_few test (vectors_in n bytes), length_vectors n bytes)

-- no control byte of a part is above 15
pub low_part : (bytes : List ℕ) (from n : ℕ) → Low bytes → Low (take n (drop (5 * from) bytes))
low_part bytes from n low i =
    by_lt (5 * i) n
    (λ l.
    let e : 5 * from + 5 * i ≡ 5 * (from + i) = omega arith in
    omega (arith, get_or-take n (drop (5 * from) bytes) (5 * i) 0 l, get_or-drop (5 * from) bytes (5 * i) 0, ap (λ (k : ℕ). get_or bytes k 0) e, low (from + i)))
    (λ l. omega (arith, get_or-eq_default (take n (drop (5 * from) bytes)) 0 {n = 5 * i} (omega (arith, length-take-most n (drop (5 * from) bytes)))))
  where
    length-take-most : (n : ℕ) (l : List ℕ) → length (take n l) ≤ n
    length-take-most n l = omega (arith, length-take n l)

-- ---- vector by vector

-- the vector after the first i
pub next_vector : (test : List ℕ → Bool) (bytes : List ℕ) (i : ℕ)
    → how_many test (vectors_in (i + 1) bytes) ≡ how_many test (vectors_in i bytes) + cond (test (take 10 (drop (10 * i) bytes))) 1 0
unfolding vectors_in how_many
next_vector test bytes i =
    ap (how_many test) (vectors_add i 1 bytes)
    ∙ many_append test (vectors_in i bytes) _
    ∙ ap (λ (n : ℕ). how_many test (vectors_in i bytes) + n) (add-zero _)

-- the first k of them were counted
pub record Tallied (bytes : List ℕ) (k : ℕ) (t : Tally) : Type 0 where
  pub errors : t.errors ≡ how_many is_error_vector (vectors_in k bytes)
  pub starts : t.starts ≡ how_many of_kind_s (vectors_in k bytes)

pub tallied_first : (bytes : List ℕ) (t : Tally) → t.errors ≡ 0 → t.starts ≡ 0 → Tallied bytes 0 t
unfolding vectors_in how_many
tallied_first bytes t e s = record { errors = e; starts = s }

-- the n bytes, which are ten, of the next
module _ (bytes : List ℕ) (k n : ℕ) (ten : n ≡ 10) where
  pub next_controls : Low bytes → 10 * k + 10 ≤ length bytes
      → (length (take n (drop (10 * k) bytes)) ≡ 10) × (get_or (take n (drop (10 * k) bytes)) 0 0 ≤ 15) × (get_or (take n (drop (10 * k) bytes)) 5 0 ≤ 15)
  next_controls low fits =
      let first : 10 * k + 0 ≡ 5 * (2 * k) = omega arith in
      let second : 10 * k + 5 ≡ 5 * (2 * k + 1) = omega arith in (
        omega (arith, length-take n (drop (10 * k) bytes), length-drop (10 * k) bytes),
        omega (arith, get_or-take n (drop (10 * k) bytes) 0 0 (omega arith), get_or-drop (10 * k) bytes 0 0, ap (λ (i : ℕ). get_or bytes i 0) first, low (2 * k)),
        omega (arith, get_or-take n (drop (10 * k) bytes) 5 0 (omega arith), get_or-drop (10 * k) bytes 5 0, ap (λ (i : ℕ). get_or bytes i 0) second, low (2 * k + 1)),
      )

  module _ (t one : Tally) (p : Tallied bytes k t)
      (f : one.errors ≡ flag_word (is_error_vector (take n (drop (10 * k) bytes)))) (g : one.starts ≡ flag_word (of_kind_s (take n (drop (10 * k) bytes)))) where
    -- one more
    pub tallied_next : Tallied bytes (k + 1) (record { errors = t.errors + one.errors; starts = t.starts + one.starts })
    tallied_next =
        record {
          errors = ap₂ ◌+◌ p.errors (rw ten at f) ∙ sym (next_vector is_error_vector bytes k);
          starts = ap₂ ◌+◌ p.starts (rw ten at g) ∙ sym (next_vector of_kind_s bytes k);
        }

    -- no count is above the number of vectors
    pub tallied_few : (t.errors + one.errors ≤ k + 1) × (t.starts + one.starts ≤ k + 1)
    tallied_few = (
      omega (arith, p.errors, few is_error_vector k bytes, f, one_le (is_error_vector (take n (drop (10 * k) bytes)))),
      omega (arith, p.starts, few of_kind_s k bytes, g, one_le (of_kind_s (take n (drop (10 * k) bytes)))),
    )

-- ---- one vector

-- the error vector is of kind E
pub error_only : (v : List ℕ) → true ≡ is_error_vector v → (1 ≡ flag_word (is_error_vector v)) × (0 ≡ flag_word (of_kind_s v))
error_only v t = (
  ap flag_word t,
  ap (λ (k : Kind). flag_word (is_s k)) (sym (kind_of_error New)) ∙ ap (λ (u : List ℕ). flag_word (of_kind_s u)) (sym (same_is v error_vector (is_true (sym t)))),
)

-- one whose first word is all data is neither
no_error : (v : List ℕ) (b : Bool) → is_error_vector v ≡ b → get_or v 0 0 ≡ 0 → 0 ≡ flag_word b
no_error v true e z = absurd (let w : get_or v 0 0 ≡ 15 = ap (λ (u : List ℕ). get_or u 0 0) (same_is v error_vector (is_true e)) in omega (arith, z, w))
no_error v false e z = refl

pub neither : (v : List ℕ) → get_or v 0 0 ≤ 15 → get_or v 5 0 ≤ 15 → get_or v 0 0 ≡ 0 → (0 ≡ flag_word (is_error_vector v)) × (0 ≡ flag_word (of_kind_s v))
neither v l h z = (
  no_error v (is_error_vector v) refl z,
  ap flag_word (no_start_lem v (omega (arith, l)) (omega (arith, h)) (λ e. omega (arith, e.0, z))),
)
