-- Laws of the counters' words. Assumes nothing.
use Prim.Native.Nat.{ℕ, ◌+◌, ◌*◌, ◌^◌, ◌<◌}
use mathlib.Core.Path.{◌≡◌, refl, ap, ap₂, ◌∙◌}
use mathlib.Core.List.{List, [], ◌∷◌, ◌++◌, append_assoc}
use native.Mathlib.Omega.{arith}
use Rattle.bits.specs.Bits.{bit, cut}
use Rattle.bits.proofs.Laws.{cut_same, bit_below, bit_above}
use Rattle.bits.proofs.Lists.{cut_add}
use Rattle.counters.specs.declared.Counters.{Counters}
use Rattle.lent_words.specs.Words.{word_bytes}
use Rattle.slices.specs.Slices.{counter_words}

-- two numbers of 32 bits in one word

pub pair_bytes : (a b : ℕ) → a < 2 ^ 32 → cut 8 (bit (a + 4294967296 * b)) 8 ≡ cut 8 (bit a) 4 ++ cut 8 (bit b) 4
pair_bytes a b l =
    let e : a + 4294967296 * b ≡ b * 2 ^ 32 + a = omega arith in
    ap (λ (n : ℕ). cut 8 (bit n) 8) e ∙ cut_add 8 4 4 (bit (b * 2 ^ 32 + a))
    ∙ ap₂ ◌++◌ (cut_same 8 4 _ _ (λ i h. bit_below b 32 a i h)) (cut_same 8 4 _ _ (λ i h. bit_above b 32 a i l))

-- the counters, two in a word
pub counters_put : (c : Counters) (p q r s : ℕ) (rest : List ℕ) → cut 8 (bit p) 8 ≡ cut 8 (bit c.tested) 4 ++ cut 8 (bit c.slips) 4
    → cut 8 (bit q) 8 ≡ cut 8 (bit c.headers) 4 ++ cut 8 (bit c.types) 4 → cut 8 (bit r) 8 ≡ cut 8 (bit c.codes) 4 ++ cut 8 (bit c.sets) 4
    → cut 8 (bit s) 8 ≡ cut 8 (bit c.begun) 4 ++ cut 8 (bit c.replaced) 4
    → word_bytes 8 (p ∷ q ∷ r ∷ s ∷ []) ++ rest ≡ word_bytes 4 (counter_words c) ++ rest
counters_put c p q r s rest ep eq er es =
    ap (λ (l : List ℕ). l ++ rest) (two p _ _ _ _ ep (two q _ _ _ _ eq (two r _ _ _ _ er (two s _ _ [] [] es refl))))
  where
    two : (w a b : ℕ) (l m : List ℕ) → cut 8 (bit w) 8 ≡ cut 8 (bit a) 4 ++ cut 8 (bit b) 4 → l ≡ m
        → cut 8 (bit w) 8 ++ l ≡ cut 8 (bit a) 4 ++ (cut 8 (bit b) 4 ++ m)
    two w a b l m e f = ap₂ ◌++◌ e f ∙ append_assoc (cut 8 (bit a) 4) (cut 8 (bit b) 4) m
