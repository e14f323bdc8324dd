-- What encoding answers: a vector by its words, and one vector by itself.
use mathlib.Core.Path.{◌≡◌, refl, ◌∙◌, ap, ap₂, sym}
use mathlib.Core.Bool.{cond, not}
use mathlib.Core.List.{List}
use Prim.Native.Nat.{ℕ, ◌+◌, ◌*◌, ◌/◌, ◌%◌, ◌^◌, ◌<◌, ◌≤◌}
use native.Mathlib.Omega.{arith}
use lib.Dec.{eqb, ltb}
use lib.ListN.{length, get_or}
use borrow.Author.Tests.{ne_eqb}
use Rattle.refusals.specs.First.{accepted, refused as turned, first, by_verdict}
use Rattle.block.specs.declared.Edition.{Edition}
use Rattle.block.specs.declared.Kind.TheVariants.{D, C, S, T, LI, E}
use Rattle.block.specs.Block.{two_words, Carrier, block, none, carrier, carried, refused, encode_answer}
use Rattle.control_bytes.specs.Control.{high_from, high_control}
use Rattle.block.proofs.Sending.{ten, from, listed, carrier_kind_lem}
use Rattle.control_bytes.proofs.High.{high_here, high_next}
use Rattle.block.specs.declared.Coded.{Coded}
use Rattle.std.specs.Prelude.{Option, Ok}
use Rattle.block.specs.Coded.{coded_of}
use Rattle.encoding.specs.Answer.{answer_of}
use Rattle.fields.specs.Parts.{spread}
use Rattle.encoding.specs.Parts.{lanes_at, carried_by}

-- two words by their eight lanes
pub spread_words : (c0 d0 c1 d1 : ℕ) → d0 < 2 ^ 32 → spread c0 c1 (d0 + d1 * 4294967296) ≡ two_words c0 d0 c1 d1
spread_words c0 d0 c1 d1 h =
    let a : (d0 + d1 * 4294967296) % 2 ^ 32 ≡ d0 = omega arith in
    let b : (d0 + d1 * 4294967296) / 2 ^ 32 ≡ d1 = omega arith in
    ap₂ (λ (x y : ℕ). two_words c0 x c1 y) a b

two_words_lem : (v : List ℕ) → length v ≡ 10 → high_control v ≡ high_from 2 0 v
unfolding high_control
two_words_lem v l = ap (λ (n : ℕ). high_from (n / 5) 0 v) l

module _ (v : List ℕ) (l : length v ≡ 10) where
  -- the vector by the words that are read from it
  pub read_words : ((n : ℕ) → get_or v n 0 < 256) → two_words (get_or v 0 0) (lanes_at v 1) (get_or v 5 0) (lanes_at v 6) ≡ v
  read_words b =
      ten refl (low (b 1) (b 2) (b 3) (b 4)).0 (low (b 1) (b 2) (b 3) (b 4)).1 (low (b 1) (b 2) (b 3) (b 4)).2 (low (b 1) (b 2) (b 3) (b 4)).3
      refl (low (b 6) (b 7) (b 8) (b 9)).0 (low (b 6) (b 7) (b 8) (b 9)).1 (low (b 6) (b 7) (b 8) (b 9)).2 (low (b 6) (b 7) (b 8) (b 9)).3
      ∙ sym (listed v ∙ ap (from v 0) l)
    where
      low : {a b c d : ℕ} → a < 256 → b < 256 → c < 256 → d < 256
          → ((a + b * 256 + c * 65536 + d * 16777216) % 2 ^ 8 ≡ a) × ((a + b * 256 + c * 65536 + d * 16777216) / 2 ^ 8 % 2 ^ 8 ≡ b) × ((a + b * 256 + c * 65536 + d * 16777216) / 2 ^ 16 % 2 ^ 8 ≡ c) × ((a + b * 256 + c * 65536 + d * 16777216) / 2 ^ 24 % 2 ^ 8 ≡ d)
      low p q r s = (omega arith, omega arith, omega arith, omega arith)

module _ (ed : Edition) where
  -- ---- one vector by itself

  -- the two checks, by the offset of the first control byte above 15
  checked : (v : List ℕ) (p : ℕ) → length v ≡ 10 → high_control v ≡ p
      → encode_answer ed v ≡ by_verdict (cond (ltb p 10) (turned 5 p) accepted) (carried (carrier ed v)) refused
  unfolding encode_answer first
  checked v p l h =
      ap₂ (λ (n q : ℕ). by_verdict (cond (not (eqb n 10)) (turned 2 0) (cond (ltb q n) (turned 5 q) accepted)) (carried (carrier ed v)) refused) l h

  pub wrong_length_lem : (v : List ℕ) → (length v ≡ 10 → ⊥) → refused 2 0 ≡ encode_answer ed v
  unfolding encode_answer first
  wrong_length_lem v n = rw (ne_eqb (length v) 10 n)

  module _ (v : List ℕ) (l : length v ≡ 10) where
    pub high_first : 15 < get_or v 0 0 → refused 5 0 ≡ encode_answer ed v
    high_first h = sym (checked v 0 l (two_words_lem v l ∙ high_here 1 0 v h))

    pub high_second : get_or v 0 0 ≤ 15 → 15 < get_or v 5 0 → refused 5 5 ≡ encode_answer ed v
    high_second h k = sym (checked v 5 l (two_words_lem v l ∙ high_next 1 0 v h ∙ high_here 0 5 v k))

    both_low : get_or v 0 0 ≤ 15 → get_or v 5 0 ≤ 15 → carried (carrier ed v) ≡ encode_answer ed v
    unfolding high_from
    both_low h k = sym (checked v 10 l (two_words_lem v l ∙ high_next 1 0 v h ∙ high_next 0 5 v k))

    -- a block that carries a vector is not of kind E, so kind E says that there is none
    given : (w : List ℕ) → answer_of (Ok (carried_by (coded_of (carrier ed w)))) ≡ carried (carrier ed w)
    given w = go (carrier ed w) refl
      where
        go : (c : Carrier) → carrier ed w ≡ c → answer_of (Ok (carried_by (coded_of c))) ≡ carried c
        go none e = refl
        go (block D h x) e = refl
        go (block C h x) e = refl
        go (block S h x) e = refl
        go (block T h x) e = refl
        go (block LI h x) e = refl
        go (block E h x) e = absurd (carrier_kind_lem ed w E h x e refl)

    pub good_answer : (z : Option Coded) (c : Coded) (d0 d1 : ℕ) → ((n : ℕ) → get_or v n 0 < 256) → get_or v 0 0 ≤ 15 → get_or v 5 0 ≤ 15
        → d0 ≡ lanes_at v 1 → d1 ≡ lanes_at v 6 → c ≡ coded_of (carrier ed (two_words (get_or v 0 0) d0 (get_or v 5 0) d1)) → z ≡ carried_by c → answer_of (Ok z) ≡ encode_answer ed v
    good_answer z c d0 d1 b h k p q r s =
        ap (λ (z : Option Coded). answer_of (Ok z)) (s ∙ ap carried_by (r ∙ ap coded_of (ap (carrier ed) (ap₂ (λ (x y : ℕ). two_words (get_or v 0 0) x (get_or v 5 0) y) p q ∙ read_words v l b))))
        ∙ given v ∙ both_low h k
