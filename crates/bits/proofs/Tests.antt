-- Tests that are computed over a whole table or list, and what then holds at one place.
use mathlib.Core.Path.{◌≡◌, ◌∙◌, subst, sym}
use mathlib.Core.Bool.{Bool, true, false, ◌&&◌, ◌||◌}
use mathlib.Core.List.{List, [], ◌∷◌}
use Prim.Native.Nat.{ℕ, zero, suc, ◌+◌, ◌<◌}
use native.Mathlib.Nat.{add-zero, zero-add, add-suc, suc-add, le_of_suc-le-suc, not-suc-le-zero}
use native.Mathlib.Omega.{arith}
use lib.Dec.{T, leb, leb→le}
use lib.ListN.{length, get_or}

-- ---- and, or, unless

pub both_left : (a b : Bool) → T (a && b) → T a
both_left true b t = tt
both_left false b t = t

pub both_right : (a b : Bool) → T (a && b) → T b
both_right true b t = t
both_right false b t = absurd t

pub or_right : (a b : Bool) → T (a || b) → (T a → ⊥) → T b
or_right true b t n = absurd (n tt)
or_right false b t n = t

-- where the first is true the second is not computed
abbrev pub unless : Bool → (Unit {0} → Bool) → Bool
unless true f = true
unless false f = f tt

pub unless_right : (a : Bool) (f : Unit {0} → Bool) → T (unless a f) → (T a → ⊥) → T (f tt)
unless_right true f t n = absurd (n tt)
unless_right false f t n = t

pub not_leb : {a b : ℕ} → a < b → T (leb b a) → ⊥
not_leb {a} {b} h t = let w = leb→le b a t in omega arith

pub is_true : {b : Bool} → b ≡ true → T b
is_true e = subst T (sym e) tt

-- ---- a list of tests, each of which passes

abbrev pub all : List Bool → Bool
all [] = true
all (b ∷ bs) = b && all bs

pub holds : (bs : List Bool) (i : ℕ) → T (all bs) → T (get_or bs i true)
holds [] i t = tt
holds (b ∷ bs) zero t = both_left b (all bs) t
holds (b ∷ bs) (suc i) t = holds bs i (both_right b (all bs) t)

-- ---- a test of each element

abbrev pub every : {A : Type 0} → (A → Bool) → List A → Bool
every q [] = true
every q (a ∷ l) = q a && every q l

pub every_at : {A : Type 0} (q : A → Bool) (l : List A) (z : A) (i : ℕ) → T (every q l) → i < length l → T (q (get_or l i z))
every_at q [] z i t h = absurd (not-suc-le-zero h)
every_at q (a ∷ l) z zero t h = both_left (q a) (every q l) t
every_at q (a ∷ l) z (suc i) t h = every_at q l z i (both_right (q a) (every q l) t) (le_of_suc-le-suc h)

-- ---- a test at each of n numbers from i

abbrev pub each : (ℕ → Bool) → ℕ → ℕ → Bool
each f i zero = true
each f i (suc n) = f i && each f (suc i) n

each_from : (f : ℕ → Bool) (n i k : ℕ) → T (each f i n) → k < n → T (f (i + k))
each_from f zero i k t h = absurd (not-suc-le-zero h)
each_from f (suc n) i zero t h = subst (λ (m : ℕ). T (f m)) (sym (add-zero i)) (both_left (f i) _ t)
each_from f (suc n) i (suc k) t h =
    subst (λ (m : ℕ). T (f m)) (suc-add i k ∙ sym (add-suc i k)) (each_from f n (suc i) k (both_right (f i) _ t) (le_of_suc-le-suc h))

pub at : (f : ℕ → Bool) (n : ℕ) → T (each f 0 n) → (k : ℕ) → k < n → T (f k)
at f n t k h = subst (λ (m : ℕ). T (f m)) (zero-add k) (each_from f n 0 k t h)

-- the eight characters
pub eight : (P : ℕ → Type 0) → P 0 → P 1 → P 2 → P 3 → P 4 → P 5 → P 6 → P 7 → (p : ℕ) → p < 8 → P p
eight P a b c d e f g h zero w = a
eight P a b c d e f g h (suc zero) w = b
eight P a b c d e f g h (suc (suc zero)) w = c
eight P a b c d e f g h (suc (suc (suc zero))) w = d
eight P a b c d e f g h (suc (suc (suc (suc zero)))) w = e
eight P a b c d e f g h (suc (suc (suc (suc (suc zero))))) w = f
eight P a b c d e f g h (suc (suc (suc (suc (suc (suc zero)))))) w = g
eight P a b c d e f g h (suc (suc (suc (suc (suc (suc (suc zero))))))) w = h
eight P a b c d e f g h (suc (suc (suc (suc (suc (suc (suc (suc p)))))))) w = absurd (far w)
  where
    far : suc (suc (suc (suc (suc (suc (suc (suc p))))))) < 8 → ⊥
    far k = omega arith
