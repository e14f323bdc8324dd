-- The headers of a damaged line: a flip of one of its bits makes a header invalid, so no more headers are invalid than bits were flipped.
use mathlib.Core.Path.{◌≡◌, refl, sym, ap, ap₂, ◌∙◌, subst}
use mathlib.Core.Bool.{Bool, true, false}
use mathlib.Core.List.{List, [], ◌∷◌}
use mathlib.Core.Logic.{◌⊎◌, inl, inr}
use Prim.Native.Nat.{ℕ, zero, suc, ◌+◌, ◌*◌, ◌%◌, ◌≤◌, ◌<◌}
use native.Mathlib.Omega.{arith}
use lib.ListN.{length}
use Rattle.bits.specs.Bits.{bit, number, total}
use Rattle.bits.proofs.Laws.{two, total_add, total_same}
use Rattle.register.specs.Register.{flip}
use Rattle.line.specs.declared.Block.{Block}
use Rattle.block.specs.declared.Edition.{Edition}
use Rattle.block.specs.Block.{kind_of}
use Rattle.block.specs.declared.Kind.TheVariants.{E}
use Rattle.lock.specs.Lock.{invalid_of}
use Rattle.receiving.specs.Machine.{valid_of}
use Rattle.demands.proofs.Runs.{valids}
use Rattle.demands.proofs.Lock.{invalids, FirstValid}
use Rattle.damage.proofs.Flipped.{header_flips}
use Rattle.damage.proofs.Blocks.{flipped_block, flipped_blocks}

-- a header that is sent: 2 of a data block, 1 of a control block
abbrev pub Header : ℕ → Type 0
Header h = (h ≡ 2) ⊎ (h ≡ 1)

-- a header with its bits flipped where a and b are 1
abbrev turned : ℕ → ℕ → ℕ → ℕ
turned h a b = (bit h 0 + a) % 2 + 2 * ((bit h 1 + b) % 2)

-- it is the header of a flipped block
turned_is : (f : ℕ → ℕ) (h : ℕ) → number 2 (flip (bit h) f) ≡ turned h (f 0) (f 1)
unfolding number flip
turned_is f h = omega arith

-- every block has a header that is sent
abbrev pub Headers : List Block → Type 0
Headers [] = Unit
Headers (b ∷ bs) = Header b.header × Headers bs

-- a sum from its first term on
total_first : (g : ℕ → ℕ) (n : ℕ) → total g (suc n) ≡ g 0 + total (λ k. g (suc k)) n
unfolding total
total_first g n =
    let e : suc n ≡ 1 + n = omega arith in
    let s : (k : ℕ) → 1 + k ≡ suc k = λ k. omega arith in
    ap (total g) e ∙ total_add g 1 n ∙ ap (λ (t : ℕ). 0 + g 0 + t) (total_same (λ k. g (1 + k)) (λ k. g (suc k)) n (λ k. ap g (s k))) ∙ omega arith

-- a header that adds nothing to the count of invalid ones is valid
none_invalid : (v : Bool) → invalid_of v ≤ 0 → v ≡ true
unfolding invalid_of
none_invalid true l = refl
none_invalid false l = absurd (omega arith)

module _ (ed : Edition) where
  -- What comes of a header by a and b flips of its bits: itself, or one of which every block is of kind E. One that is invalid took a flip.
  pub record Damaged (h a b r : ℕ) : Type 0 where
    pub same_or_error : (r ≡ h) ⊎ ((x : ℕ) → kind_of ed r x ≡ E)
    pub counted : invalid_of (valid_of r) ≤ a + b

  -- by which of its bits are flipped, where not both are
  by_flips : (h : ℕ) → Damaged h 0 0 (turned h 0 0) → Damaged h 0 1 (turned h 0 1) → Damaged h 1 0 (turned h 1 0)
      → (a b : ℕ) → a < 2 → b < 2 → a + b ≤ 1 → Damaged h a b (turned h a b)
  by_flips h none second first a b la lb =
      two (λ (a : ℕ). a + b ≤ 1 → Damaged h a b (turned h a b))
      (two (λ (b : ℕ). 0 + b ≤ 1 → Damaged h 0 b (turned h 0 b)) (λ l. none) (λ l. second) b lb)
      (two (λ (b : ℕ). 1 + b ≤ 1 → Damaged h 1 b (turned h 1 b)) (λ l. first) (λ l. absurd (omega arith)) b lb) a la

  -- a header of which not both bits are flipped
  one_flip : (h : ℕ) → Header h → (a b : ℕ) → a < 2 → b < 2 → a + b ≤ 1 → Damaged h a b (turned h a b)
  unfolding kind_of valid_of invalid_of bit
  one_flip h (inl e) =
      subst (λ (h : ℕ). (a b : ℕ) → a < 2 → b < 2 → a + b ≤ 1 → Damaged h a b (turned h a b)) (sym e)
      (by_flips 2 (record { same_or_error = inl refl; counted = omega arith })
      (record { same_or_error = inr (λ x. refl); counted = omega arith })
      (record { same_or_error = inr (λ x. refl); counted = omega arith }))
  one_flip h (inr e) =
      subst (λ (h : ℕ). (a b : ℕ) → a < 2 → b < 2 → a + b ≤ 1 → Damaged h a b (turned h a b)) (sym e)
      (by_flips 1 (record { same_or_error = inl refl; counted = omega arith })
      (record { same_or_error = inr (λ x. refl); counted = omega arith })
      (record { same_or_error = inr (λ x. refl); counted = omega arith }))

  -- the header of a block of a damaged line
  pub damaged_header : (f : ℕ → ℕ) (b : Block) → ((n : ℕ) → f n < 2) → Header b.header → f 0 + f 1 ≤ 1
      → Damaged b.header (f 0) (f 1) (flipped_block f b).header
  damaged_header f b fb h l = subst (Damaged b.header (f 0) (f 1)) (sym (turned_is f b.header)) (one_flip b.header h (f 0) (f 1) (fb 0) (fb 1) l)

  -- ---- all headers of a line

  -- no more headers are invalid than header bits were flipped
  pub few_invalid : (f : ℕ → ℕ) (bs : List Block) → ((n : ℕ) → f n < 2) → Headers bs → ((k : ℕ) → k < length bs → header_flips f k ≤ 1)
      → invalids (valids (flipped_blocks f bs)) ≤ total (header_flips f) (length bs)
  unfolding flipped_blocks valids invalids total
  few_invalid f [] fb hs l = omega arith
  few_invalid f (b ∷ bs) fb hs l =
      omega (
        arith,
        (damaged_header f b fb hs.0 (l 0 (omega arith))).counted,
        few_invalid (λ n. f (66 + n)) bs (λ n. fb (66 + n)) hs.1 (λ k m. subst (λ (n : ℕ). n ≤ 1) (sym (next k)) (l (suc k) (omega arith))),
        total_first (header_flips f) (length bs),
        total_same (header_flips (λ n. f (66 + n))) (λ k. header_flips f (suc k)) (length bs) next,
      )
    where
      next : (k : ℕ) → header_flips (λ n. f (66 + n)) k ≡ header_flips f (suc k)
      next k =
          let u : 66 + 66 * k ≡ 66 * suc k = omega arith in
          let v : 66 + (66 * k + 1) ≡ 66 * suc k + 1 = omega arith in
          ap₂ (λ (x y : ℕ). f x + f y) u v

  -- where no bit of the first n blocks is flipped, their headers are valid
  pub first_valid : (n : ℕ) (f : ℕ → ℕ) (bs : List Block) → ((i : ℕ) → f i < 2) → Headers bs → n ≤ length bs → ((i : ℕ) → i < 66 * n → f i ≡ 0)
      → FirstValid n (valids (flipped_blocks f bs))
  unfolding flipped_blocks valids
  first_valid zero f bs fb hs l z = tt
  first_valid (suc n) f [] fb hs l z = absurd (omega arith)
  first_valid (suc n) f (b ∷ bs) fb hs l z =
      let a : f 0 ≡ 0 = z 0 (omega arith) in
      let c : f 1 ≡ 0 = z 1 (omega arith) in
      let d : Damaged b.header (f 0) (f 1) (flipped_block f b).header = damaged_header f b fb hs.0 (omega arith) in (
        none_invalid (valid_of (flipped_block f b).header) (omega (arith, d.counted)),
        first_valid n (λ i. f (66 + i)) bs (λ i. fb (66 + i)) hs.1 (omega arith) (λ i m. z (66 + i) (omega arith)),
      )
