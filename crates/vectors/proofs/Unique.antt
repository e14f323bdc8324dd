-- Any two answers, and contents of lent memory, that meet a public function's promise are equal.
use mathlib.Core.Path.{◌≡◌, ◌∙◌, ap, sym}
use mathlib.Core.List.{List, ◌++◌}
use Prim.Native.Nat.{ℕ, ◌+◌, ◌/◌, ◌%◌, ◌^◌, ◌<◌}
use native.Mathlib.Omega.{arith}
use lib.ListN.{get_or, take, drop}
use lib.Pow.{shr-shr}
use Rattle.vectors.specs.declared.Vector.{Vector}
use Rattle.vectors.specs.Vector.{vector_bytes}

-- a word of 32 bits is known by its four bytes
lanes_same : (a b : ℕ) → a < 2 ^ 32 → b < 2 ^ 32 → a % 2 ^ 8 ≡ b % 2 ^ 8 → a / 2 ^ 8 % 2 ^ 8 ≡ b / 2 ^ 8 % 2 ^ 8 → a / 2 ^ 16 % 2 ^ 8 ≡ b / 2 ^ 16 % 2 ^ 8
    → a / 2 ^ 24 % 2 ^ 8 ≡ b / 2 ^ 24 % 2 ^ 8 → a ≡ b
lanes_same a b h k p q r s =
    step a b p
    (step (a / 2 ^ 8) (b / 2 ^ 8) q
    (shr-shr a 8 8
    ∙ step (a / 2 ^ 16) (b / 2 ^ 16) r (shr-shr a 16 8 ∙ last (a / 2 ^ 24) (b / 2 ^ 24) (top a h) (top b k) s ∙ sym (shr-shr b 16 8))
    ∙ sym (shr-shr b 8 8)))
  where
    step : (x y : ℕ) → x % 2 ^ 8 ≡ y % 2 ^ 8 → x / 2 ^ 8 ≡ y / 2 ^ 8 → x ≡ y
    step x y e f = omega arith

    last : (x y : ℕ) → x < 2 ^ 8 → y < 2 ^ 8 → x % 2 ^ 8 ≡ y % 2 ^ 8 → x ≡ y
    last x y l m e = omega arith

    top : (x : ℕ) → x < 2 ^ 32 → x / 2 ^ 24 < 2 ^ 8
    top x l = omega arith

-- a vector is known by its ten bytes; its lanes are words of 32 bits
pub vector_same : (v w : Vector) → v.d0 < 2 ^ 32 → v.d1 < 2 ^ 32 → w.d0 < 2 ^ 32 → w.d1 < 2 ^ 32 → vector_bytes v ≡ vector_bytes w → v ≡ w
vector_same v w a b c d e =
    λ i. record { c0 = byte 0 i; d0 = low i; c1 = byte 5 i; d1 = high i }
  where
    byte : (n : ℕ) → get_or (vector_bytes v) n 0 ≡ get_or (vector_bytes w) n 0
    byte n = ap (λ (l : List ℕ). get_or l n 0) e

    low : v.d0 ≡ w.d0
    low = lanes_same v.d0 w.d0 a c (byte 1) (byte 2) (byte 3) (byte 4)

    high : v.d1 ≡ w.d1
    high = lanes_same v.d1 w.d1 b d (byte 6) (byte 7) (byte 8) (byte 9)

pub bytes_of_unique : (v : Vector) (r r' : List ℕ) → r ≡ vector_bytes v → r' ≡ vector_bytes v → r ≡ r'
bytes_of_unique v r r' p q = p ∙ sym q

-- `put_vector`: the room after it
pub put_vector_unique : (room : List ℕ) (at : ℕ) (v : Vector) (a b : List ℕ)
    → a ≡ take at room ++ (vector_bytes v ++ drop (at + 10) room)
    → b ≡ take at room ++ (vector_bytes v ++ drop (at + 10) room) → a ≡ b
put_vector_unique room at v a b p q = p ∙ sym q
