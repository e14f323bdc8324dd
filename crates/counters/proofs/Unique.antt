-- Any two answers that meet a public function's promise are equal. Assumes nothing.
use Prim.Native.Nat.{ℕ}
use mathlib.Core.Path.{◌≡◌, sym, ◌∙◌}
use mathlib.Core.List.{List}
use Rattle.std.specs.Prelude.{Result}
use Rattle.refusals.specs.declared.Refused.{Refused}
use Rattle.reception.proofs.Unique as receiving
use Rattle.receiving.specs.declared.Counts.{Counts}
use Rattle.receiving.specs.declared.Handed.{Handed}
use Rattle.receiving.specs.declared.Summary.{Summary}
use Rattle.counters.specs.Counters.{becomes, updated, ReceivesCounting}
use Rattle.counters.specs.declared.Counters.{Counters}
use Rattle.counters.specs.declared.Counted.{Counted}

-- `add`
pub add_unique : (old added r r' : ℕ) → r ≡ becomes old added → r' ≡ becomes old added → r ≡ r'
add_unique old added r r' p q = p ∙ sym q

-- `add_counts`
pub add_counts_unique : (c r r' : Counters) (n : Counts) (h : Handed) → r ≡ updated c n h → r' ≡ updated c n h → r ≡ r'
add_counts_unique c r r' n h p q = p ∙ sym q

-- `receive`: the answer, every byte of the room and each counter
pub receive_unique : (edition : ℕ) (line room room₁ room₂ : List ℕ) (c c₁ c₂ : Counters) (a b : Result Summary Refused) → ReceivesCounting edition line room c a room₁ c₁ → ReceivesCounting edition line room c b room₂ c₂ → (a ≡ b) × ((room₁ ≡ room₂) × (c₁ ≡ c₂))
receive_unique edition line room room₁ room₂ c c₁ c₂ a b (p, m) (q, n) =
    let same : (a ≡ b) × (room₁ ≡ room₂) = receiving.receive_unique edition line room room₁ room₂ a b p q in
    (same.0, (same.1, m ∙ sym n))

-- `receive_by_value`: the same, of the two in one record
pub receive_by_value_unique : (edition : ℕ) (line room room₁ room₂ : List ℕ) (c : Counters) (r r' : Counted) → ReceivesCounting edition line room c r.answer room₁ r.counters → ReceivesCounting edition line room c r'.answer room₂ r'.counters → (r ≡ r') × (room₁ ≡ room₂)
receive_by_value_unique edition line room room₁ room₂ c r r' p q =
    let same : (r.answer ≡ r'.answer) × ((room₁ ≡ room₂) × (r.counters ≡ r'.counters)) = receive_unique edition line room room₁ room₂ c r.counters r'.counters r.answer r'.answer p q in
    ((λ i. record { answer = same.0 i; counters = same.1.1 i }), same.1.0)
