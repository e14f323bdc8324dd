-- What it means that sending accepts vector bytes: whole groups, a start state of 58 bits, and no control byte above 15. Assumes nothing.
use mathlib.Core.Path.{◌≡◌, refl, ap, ◌∙◌}
use mathlib.Core.Bool.{false, not}
use mathlib.Core.List.{List, [], ◌∷◌, ◌++◌, flatten}
use Prim.Native.Nat.{ℕ, zero, suc, ◌+◌, ◌-◌, ◌*◌, ◌/◌, ◌%◌, ◌^◌, ◌≤◌, ◌<◌}
use native.Mathlib.Omega.{arith}
use lib.Dec.{ltb, leb, eqb}
use lib.ListN.{length, get_or, take, drop, length-drop, take-append-drop}
use lib.Seq.{length-take-le, get_or-take, get_or-drop}
use borrow.Author.Tests.{ltb-false, eqb-true, not-false}
use Rattle.refusals.proofs.Laws.{passed}
use Rattle.control_bytes.specs.Control.{high_control}
use Rattle.control_bytes.proofs.High.{low_word}
use Rattle.sending.specs.Answer.{send_checks}
use Rattle.block.specs.Block.{vectors_in, vector_list}
use Rattle.demands.specs.Words.{SendAccepts}
use Rattle.demands.proofs.Sent.{Vectors}

-- ---- the checks that have passed

module _ (edition : ℕ) (bytes : List ℕ) (start room : ℕ) (ok : SendAccepts edition bytes start room) where
  -- the six of them, in order
  checked : (ltb 1 edition ≡ false) × (ltb 1000000 (length bytes) ≡ false) × (not (eqb (length bytes % 40) 0) ≡ false) × (leb (2 ^ 58) start ≡ false)
      × (ltb room (33 * (length bytes / 40)) ≡ false) × (ltb (high_control bytes) (length bytes) ≡ false)
  unfolding send_checks
  checked =
      let a = passed _ _ ok in
      let b = passed _ _ a.1 in
      let c = passed _ _ b.1 in
      let d = passed _ _ c.1 in
      let e = passed _ _ d.1 in
      let f = passed _ _ e.1 in
      (a.0, b.0, c.0, d.0, e.0, f.0)

  -- the edition is known
  pub known : edition ≤ 1
  known = ltb-false 1 edition checked.0

  -- at most 1,000,000 bytes
  pub not_long : length bytes ≤ 1000000
  not_long = ltb-false 1000000 (length bytes) checked.1

  -- whole groups of four vectors
  pub whole_groups : length bytes % 40 ≡ 0
  whole_groups = eqb-true (length bytes % 40) 0 (not-false (eqb (length bytes % 40) 0) checked.2)

  -- the place of the first high control byte is past the list
  none_high : length bytes ≤ high_control bytes
  none_high = ltb-false (high_control bytes) (length bytes) checked.5

-- ---- the vectors

-- the vectors one after another are the bytes
pub flat_vectors : (k : ℕ) (bytes : List ℕ) → length bytes ≡ 10 * k → flatten (vectors_in k bytes) ≡ bytes
unfolding vectors_in flatten
flat_vectors zero [] e = refl
flat_vectors zero (b ∷ bytes) e = absurd (omega arith)
flat_vectors (suc k) bytes e =
    ap (λ (rest : List ℕ). take 10 bytes ++ rest) (flat_vectors k (drop 10 bytes) (rw length-drop (omega arith)))
    ∙ take-append-drop 10 bytes

-- whole vectors with low control bytes
vectors_in_lem : (k : ℕ) (bytes : List ℕ) → 10 * k ≤ length bytes → ((i : ℕ) → i < 2 * k → get_or bytes (5 * i) 0 < 16) → Vectors (vectors_in k bytes)
unfolding vectors_in
vectors_in_lem zero bytes h low = tt
vectors_in_lem (suc k) bytes h low = (
  record {
    ten = length-take-le 10 bytes (omega arith);
    low = rw (get_or-take 10 bytes 0 0 (omega arith)) (low 0 (omega arith));
    high = rw (get_or-take 10 bytes 5 0 (omega arith)) (low 1 (omega arith));
  },
  vectors_in_lem k (drop 10 bytes) (rw length-drop (omega arith))
      (λ i l.
      let e : 10 + 5 * i ≡ 5 * (2 + i) = omega arith in
      rw (get_or-drop 10 bytes (5 * i) 0, e) (low (2 + i) (omega arith))),
)

module _ (edition : ℕ) (bytes : List ℕ) (start room : ℕ) (ok : SendAccepts edition bytes start room) where
  -- whole vectors, four to a group
  pub ten_each : length bytes ≡ 10 * (length bytes / 10)
  ten_each = omega (arith, whole_groups edition bytes start room ok)

  -- four vectors to a group
  pub four_each : length bytes / 10 ≡ 4 * (length bytes / 40)
  four_each = omega (arith, whole_groups edition bytes start room ok)

  -- each vector has ten bytes, and control bytes below 16
  pub vectors_well : Vectors (vector_list bytes)
  unfolding high_control
  vectors_well =
      vectors_in_lem (length bytes / 10) bytes (omega (arith, ten_each))
      (λ i l.
      let e : 0 + 5 * i ≡ 5 * i = omega arith in
      rw (← e) (omega (arith, low_word (length bytes / 5) 0 bytes (omega (arith, none_high edition bytes start room ok)) i (omega arith))))
