-- Any two answers that meet a function's promise are equal. Assumes nothing.
use mathlib.Core.Path.{◌≡◌, sym, ap₂, ◌∙◌}
use Prim.Native.Nat.{ℕ}
use Rattle.scrambler.specs.Scrambler.{scrambled, history_after, descrambled, line_after, mirror}
use Rattle.scrambler.specs.declared.Scrambled.{Scrambled}

-- an answer is its two fields
same : (r s : Scrambled) → r.word ≡ s.word → r.history ≡ s.history → r ≡ s
same r s e f = ap₂ (λ (w h : ℕ). record { word = w; history = h }) e f

pub scramble_unique : (payload history : ℕ) (r s : Scrambled)
    → (r.word ≡ scrambled payload history) × (r.history ≡ history_after payload history)
    → (s.word ≡ scrambled payload history) × (s.history ≡ history_after payload history) → r ≡ s
scramble_unique payload history r s p q = same r s (p.0 ∙ sym q.0) (p.1 ∙ sym q.1)

pub scramble_next_unique : (payload before sent history : ℕ) (r s : Scrambled)
    → (r.word ≡ scrambled payload (history_after before history)) × (r.history ≡ history_after payload (history_after before history))
    → (s.word ≡ scrambled payload (history_after before history)) × (s.history ≡ history_after payload (history_after before history)) → r ≡ s
scramble_next_unique payload before sent history r s p q = same r s (p.0 ∙ sym q.0) (p.1 ∙ sym q.1)

pub descramble_unique : (word history : ℕ) (r s : Scrambled)
    → (r.word ≡ descrambled word history) × (r.history ≡ line_after word history)
    → (s.word ≡ descrambled word history) × (s.history ≡ line_after word history) → r ≡ s
descramble_unique word history r s p q = same r s (p.0 ∙ sym q.0) (p.1 ∙ sym q.1)

pub mirrored_unique : (state r s : ℕ) → r ≡ mirror state → s ≡ mirror state → r ≡ s
mirrored_unique state r s p q = p ∙ sym q
