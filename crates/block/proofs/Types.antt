-- "What a type byte means is read from one constant table of 256 entries; its rule (which bytes are types, and that two different types
-- differ in at least four bits) is proved once over the whole table."
use mathlib.Core.Path.{◌≡◌, refl}
use mathlib.Core.Bool.{Bool, true, false, cond, not, ◌&&◌, ◌||◌}
use mathlib.Core.List.{List, [], ◌∷◌}
use Prim.Native.Nat.{ℕ, zero, suc, ◌<◌, ◌≤◌}
use native.Mathlib.Omega.{arith}
use lib.Dec.{T, eqb, ltb, leb, leb→le, eqb→eq}
use lib.ListN.{get_or}
use borrow.Author.Tests.{lt-ltb, le-ltb}
use Rattle.bits.specs.Bits.{bit, total}
use Rattle.block.specs.Block.{Format, no_format, control_blocks, by_type}
use Rattle.block.specs.Rows.{row}
use Rattle.block.specs.Types.{types, is_type}
use Rattle.block.specs.Distance.{differing}
use Rattle.bits.proofs.Tests.{both_left, both_right, unless, unless_right, not_leb, each, at}

-- entry y is a row with type y, or 0 where y is no type
legal : List ℕ → ℕ → Bool
legal ts y = cond (ltb 0 (get_or ts y 0)) (eqb (row (get_or ts y 0)).type y && is_type control_blocks y) (not (is_type control_blocks y))

-- every other type differs from y in at least four bits
far_from : List ℕ → ℕ → ℕ → Bool
far_from ts y z = unless (leb (get_or ts z 0) 0) (λ u. unless (eqb y z) (λ w. leb 4 (differing 0 8 y z)))

far : List ℕ → ℕ → Bool
far ts y = unless (leb (get_or ts y 0) 0) (λ u. each (far_from ts y) 0 256)

right : List ℕ → ℕ → Bool
right ts y = legal ts y && far ts y

-- the one test, over all 256 entries
all_right : T (each (right types) 0 256)
unfolding right legal far far_from types differing total bit
all_right = tt

pub type_is : (y : ℕ) → y < 256 → 0 < get_or types y 0 → ((row (get_or types y 0)).type ≡ y) × T (is_type control_blocks y)
unfolding right legal
type_is y h k =
    let t = both_left (legal types y) (far types y) (at (right types) 256 all_right y h) in
    let w : T (eqb (row (get_or types y 0)).type y && is_type control_blocks y) = rw (lt-ltb 0 (get_or types y 0) k) at t in
    (eqb→eq (row (get_or types y 0)).type y (both_left (eqb (row (get_or types y 0)).type y) _ w), both_right (eqb (row (get_or types y 0)).type y) (is_type control_blocks y) w)

pub no_type : (y : ℕ) → y < 256 → get_or types y 0 ≤ 0 → T (not (is_type control_blocks y))
unfolding right legal
no_type y h k = rw (le-ltb 0 (get_or types y 0) k) at (both_left (legal types y) (far types y) (at (right types) 256 all_right y h))

pub types_far : (y z : ℕ) → y < 256 → z < 256 → 0 < get_or types y 0 → 0 < get_or types z 0 → (y ≡ z → ⊥) → 4 ≤ differing 0 8 y z
unfolding right far far_from
types_far y z hy hz ky kz n =
    let r = both_right (legal types y) (far types y) (at (right types) 256 all_right y hy) in
    let a = unless_right (leb (get_or types y 0) 0) (λ u. each (far_from types y) 0 256) r (not_leb ky) in
    let b = unless_right (leb (get_or types z 0) 0) (λ u. unless (eqb y z) (λ w. leb 4 (differing 0 8 y z))) (at (far_from types y) 256 a z hz) (not_leb kz) in
    leb→le 4 (differing 0 8 y z) (unless_right (eqb y z) (λ w. leb 4 (differing 0 8 y z)) b (λ t. n (eqb→eq y z t)))

-- ---- bytes that have a format

-- what is no type has none
no_format_lem : (fs : List Format) (y : ℕ) → T (not (is_type fs y)) → by_type fs y ≡ no_format
no_format_lem [] y t = refl
no_format_lem (f ∷ fs) y t = go (eqb f.type y) t (no_format_lem fs y)
  where
    go : (b : Bool) → T (not (b || is_type fs y)) → (T (not (is_type fs y)) → by_type fs y ≡ no_format) → cond b f (by_type fs y) ≡ no_format
    go true t rest = absurd t
    go false t rest = rest t

-- so what has one has an entry
pub has_entry : (y : ℕ) → y < 256 → (by_type control_blocks y ≡ no_format → ⊥) → 0 < get_or types y 0
has_entry y h n = go (get_or types y 0) refl
  where
    go : (m : ℕ) → get_or types y 0 ≡ m → 0 < get_or types y 0
    go zero e = absurd (n (no_format_lem control_blocks y (no_type y h (omega (arith, e)))))
    go (suc m) e = omega (arith, e)
