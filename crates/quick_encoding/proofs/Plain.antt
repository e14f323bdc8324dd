-- The blocks of data alone, of eight idles, and of eight low power idles. Assumes nothing.
use mathlib.Core.Path.{◌≡◌, refl, ◌∙◌, ap, ap₂, sym}
use mathlib.Core.Bool.{Bool, true, cond}
use Prim.Native.Nat.{ℕ, ◌+◌, ◌*◌, ◌/◌, ◌%◌, ◌^◌, ◌<◌, ◌≤◌}
use native.Mathlib.Nat.{zero-add, add-zero, one-mul}
use native.Mathlib.Omega.{arith}
use lib.Dec.{ltb}
use lib.Pow.{shr-shr}
use borrow.Author.Tests.{lt-ltb}
use Rattle.block.specs.declared.Edition.{Edition}
use Rattle.block.specs.declared.Edition.TheVariants.{Old, New}
use Rattle.block.specs.declared.Kind.TheVariants.{D, C, LI}
use Rattle.block.specs.Block.{two_words, data_block, kind_for, carries, payload_for, block, carrier_by, control_blocks, carrier}
use Rattle.block.specs.Coded.{coded_of}

-- eight idles
idle_coded₀ : (ed : Edition) → record { kind = C; header = 1; payload = 0x1e } ≡ coded_of (carrier ed (two_words 15 0x07070707 15 0x07070707))
unfolding carrier kind_for
idle_coded₀ Old = refl
idle_coded₀ New = refl

-- eight low power idles, in the newer edition
low_coded₀ : record { kind = LI; header = 1; payload = 0x0c183060c183061e } ≡ coded_of (carrier New (two_words 15 0x06060606 15 0x06060606))
unfolding carrier kind_for
low_coded₀ = refl

module _ (ed : Edition) where
  -- no control character: the eight octets are the payload
  data_carried : (d0 d1 : ℕ) → d0 < 2 ^ 32 → d1 < 2 ^ 32 → carrier ed (two_words 0 d0 0 d1) ≡ block D 2 (d0 + d1 * 4294967296)
  unfolding carrier kind_for
  data_carried d0 d1 h k =
      ap (λ (b : Bool). cond b (block (kind_for data_block (two_words 0 d0 0 d1)) 2 (payload_for ed (two_words 0 d0 0 d1) data_block)) (carrier_by ed control_blocks (two_words 0 d0 0 d1))) taken
      ∙ ap (block D 2) sum
    where
      small : (z : ℕ) → ltb (z % 2 ^ 8) 256 ≡ true
      small z = lt-ltb (z % 2 ^ 8) 256 (omega arith)

      taken : carries ed (two_words 0 d0 0 d1) data_block.fields ≡ true
      taken = rw (small d0, small (d0 / 2 ^ 8), small (d0 / 2 ^ 16), small (d0 / 2 ^ 24), small d1, small (d1 / 2 ^ 8), small (d1 / 2 ^ 16), small (d1 / 2 ^ 24))

      join : (z y x w a b c e rest : ℕ) → a + 2 ^ 8 * y ≡ z → b + 2 ^ 8 * x ≡ y → c + 2 ^ 8 * w ≡ x → e ≡ w
          → a + 2 ^ 8 * (b + 2 ^ 8 * (c + 2 ^ 8 * (e + 2 ^ 8 * rest))) ≡ z + rest * 4294967296
      join z y x w a b c e rest p q r s = omega arith

      -- four bytes below the rest
      four : (z rest : ℕ) → z < 2 ^ 32 → z % 2 ^ 8 + 2 ^ 8 * (z / 2 ^ 8 % 2 ^ 8 + 2 ^ 8 * (z / 2 ^ 16 % 2 ^ 8 + 2 ^ 8 * (z / 2 ^ 24 % 2 ^ 8 + 2 ^ 8 * rest))) ≡ z + rest * 4294967296
      four z rest l =
          join z (z / 2 ^ 8) (z / 2 ^ 16) (z / 2 ^ 24) (z % 2 ^ 8) (z / 2 ^ 8 % 2 ^ 8) (z / 2 ^ 16 % 2 ^ 8) (z / 2 ^ 24 % 2 ^ 8) rest
          (omega arith) (omega (arith, shr-shr z 8 8)) (omega (arith, shr-shr z 16 8)) (omega arith)

      sum : payload_for ed (two_words 0 d0 0 d1) data_block ≡ d0 + d1 * 4294967296
      sum =
          zero-add _ ∙ one-mul _ ∙ four d0 _ h ∙ ap (λ (r : ℕ). d0 + r * 4294967296) (four d1 0 k ∙ add-zero d1)

  pub data_coded : (c0 d0 c1 d1 : ℕ) → d0 < 2 ^ 32 → d1 < 2 ^ 32 → c0 + 16 * c1 ≡ 0
      → record { kind = D; header = 2; payload = d0 + d1 * 4294967296 } ≡ coded_of (carrier ed (two_words c0 d0 c1 d1))
  data_coded c0 d0 c1 d1 h k e =
      let a : 0 ≡ c0 = omega arith in
      let b : 0 ≡ c1 = omega arith in
      sym (ap coded_of (data_carried d0 d1 h k)) ∙ ap₂ (λ (x y : ℕ). coded_of (carrier ed (two_words x d0 y d1))) a b

  pub idle_coded_lem : (c0 d0 c1 d1 : ℕ) → c0 ≤ 15 → c1 ≤ 15 → d0 < 2 ^ 32 → c0 + 16 * c1 ≡ 255 → d0 + d1 * 4294967296 ≡ 0x0707070707070707
      → record { kind = C; header = 1; payload = 0x1e } ≡ coded_of (carrier ed (two_words c0 d0 c1 d1))
  idle_coded_lem c0 d0 c1 d1 u w h e q =
      let a : 15 ≡ c0 = omega arith in
      let b : 15 ≡ c1 = omega arith in
      let x : 0x07070707 ≡ d0 = omega arith in
      let y : 0x07070707 ≡ d1 = omega arith in
      idle_coded₀ ed ∙ (λ i. coded_of (carrier ed (two_words (a i) (x i) (b i) (y i))))

  pub low_coded : ed ≡ New → (c0 d0 c1 d1 : ℕ) → c0 ≤ 15 → c1 ≤ 15 → d0 < 2 ^ 32 → c0 + 16 * c1 ≡ 255 → d0 + d1 * 4294967296 ≡ 0x0606060606060606
      → record { kind = LI; header = 1; payload = 0x0c183060c183061e } ≡ coded_of (carrier ed (two_words c0 d0 c1 d1))
  low_coded n c0 d0 c1 d1 u w h e q =
      let a : 15 ≡ c0 = omega arith in
      let b : 15 ≡ c1 = omega arith in
      let x : 0x06060606 ≡ d0 = omega arith in
      let y : 0x06060606 ≡ d1 = omega arith in
      low_coded₀ ∙ (λ i. coded_of (carrier (sym n i) (two_words (a i) (x i) (b i) (y i))))
