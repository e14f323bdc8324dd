-- What a receiver answers for a block that leaves it locked and not high: the error vector, or the decoded vector of a block that is not
-- of kind E.
use mathlib.Core.Path.{◌≡◌, refl, sym, ap, ◌∙◌}
use mathlib.Core.Bool.{Bool, true, false}
use mathlib.Core.List.{List, [], ◌∷◌}
use mathlib.Core.Logic.{◌⊎◌, inl, inr}
use Prim.Native.Nat.{ℕ, zero, suc, ◌<◌}
use native.Mathlib.Omega.{arith}
use lib.ListN.{length, get_or}
use Rattle.line.specs.declared.Block.{Block}
use Rattle.block.specs.declared.Edition.{Edition}
use Rattle.block.specs.Block.{kind_of, decoded, error_vector, kind_in}
use Rattle.block.specs.declared.Kind.{Kind}
use Rattle.block.specs.declared.Kind.TheVariants.{D, C, S, T, LI, E}
use Rattle.diagrams.specs.Diagram.{after_idle, after_data, after_error, after_low, diagram_of}
use Rattle.diagrams.specs.declared.State.{State}
use Rattle.diagrams.specs.declared.State.TheVariants.{Init, Control, Data, Terminate, Error, LowPower}
use Rattle.scrambler.specs.Scrambler.{descrambled_all}
use Rattle.receiving.specs.Machine.{Tested, link_of, tested_of}
use Rattle.receiving.specs.Receive.{ends, state_of, answer_in, judge, answers}
use Rattle.receiving.specs.declared.Link.{Link}
use Rattle.receiving.proofs.Reasons.{kind_tested}
use Rattle.demands.proofs.Runs.{tested_all}
use Rattle.damage.proofs.Blocks.{payloads}

-- the error vector, or what was decoded of a block of another kind than E
abbrev pub ErrorOr : Kind → (decoded answer : List ℕ) → Type 0
ErrorOr k decoded answer = (answer ≡ error_vector) ⊎ ((answer ≡ decoded) × (k ≡ E → ⊥))

-- 1 for kind E, 0 for the others, so that they are told apart
error_code : Kind → ℕ
error_code D = 0
error_code C = 0
error_code S = 0
error_code T = 0
error_code E = 1
error_code LI = 0

-- a kind of which this is 0 is not E
other : (k : Kind) → error_code k ≡ 0 → k ≡ E → ⊥
unfolding error_code
other k c e = let z : ◌≡◌ {A = ℕ} 0 1 = sym c ∙ ap error_code e in omega arith

-- a kind is E or it is not
pub error_or_not : (k : Kind) → (k ≡ E) ⊎ (k ≡ E → ⊥)
unfolding error_code
error_or_not D = inr (other D refl)
error_or_not C = inr (other C refl)
error_or_not S = inr (other S refl)
error_or_not T = inr (other T refl)
error_or_not E = inl refl
error_or_not LI = inr (other LI refl)

-- a step of the diagram, by the kind of its block
module _ (v : List ℕ) where
  -- after INIT, C or T
  idle : (low : State) → ErrorOr LI v (answer_in low v) → (k : Kind) → ErrorOr k v (answer_in (after_idle low k) v)
  unfolding after_idle answer_in error_code
  idle low g D = inl refl
  idle low g C = inr (refl, other C refl)
  idle low g S = inr (refl, other S refl)
  idle low g T = inl refl
  idle low g E = inl refl
  idle low g LI = g

  -- a Terminate after D or E, whether or not the next block lets it end
  ended : (e : Bool) → ErrorOr T v (answer_in (after_data T e) v) × ErrorOr T v (answer_in (after_error T e) v)
  unfolding after_data after_error answer_in error_code
  ended true = (inr (refl, other T refl), inr (refl, other T refl))
  ended false = (inl refl, inl refl)

  -- after D
  frame : (k : Kind) (e : Bool) → ErrorOr k v (answer_in (after_data k e) v)
  unfolding after_data answer_in error_code
  frame D e = inr (refl, other D refl)
  frame C e = inl refl
  frame S e = inl refl
  frame T e = (ended e).0
  frame E e = inl refl
  frame LI e = inl refl

  -- after E
  error : (k : Kind) (e : Bool) → ErrorOr k v (answer_in (after_error k e) v)
  unfolding after_error answer_in error_code
  error D e = inr (refl, other D refl)
  error C e = inr (refl, other C refl)
  error S e = inl refl
  error T e = (ended e).1
  error E e = inl refl
  error LI e = inr (refl, other LI refl)

  -- after LI
  low : (k : Kind) → ErrorOr k v (answer_in (after_low k) v)
  unfolding after_low answer_in error_code
  low D = inl refl
  low C = inr (refl, other C refl)
  low S = inl refl
  low T = inl refl
  low E = inl refl
  low LI = inr (refl, other LI refl)

  -- from any state
  step : (s : State) (k : Kind) (e : Bool) → ErrorOr k v (answer_in (diagram_of s k e) v)
  unfolding diagram_of answer_in error_code
  step Init k e = idle Error (inl refl) k
  step Control k e = idle LowPower (inr (refl, other LI refl)) k
  step Terminate k e = idle LowPower (inr (refl, other LI refl)) k
  step LowPower k e = low k
  step Data k e = frame k e
  step Error k e = error k e

-- the answer for block k of those that were tested
pub answer_at : (s : State) (ts : List Tested) (z : Tested) (k : ℕ) → k < length ts → (get_or ts k z).on ≡ true
    → ErrorOr (kind_in (get_or ts k z).class) (get_or ts k z).vector (get_or (answers s ts) k [])
unfolding answers judge state_of
answer_at s [] z k l o = absurd (omega arith)
answer_at s (t ∷ ts) z zero l o = rw o (step t.vector s (kind_in t.class) (ends ts))
answer_at s (t ∷ ts) z (suc k) l o = answer_at (state_of s t (ends ts)) ts z k (omega arith) o

-- a tested block has the kind and the vector of a block with this header and payload
abbrev pub TestedAs : Edition → (header payload : ℕ) → Tested → Type 0
TestedAs ed header payload t = (kind_in t.class ≡ kind_of ed header payload) × (t.vector ≡ decoded ed header payload)

-- block k of a line is tested with its header and its descrambled payload
pub tested_at : (l : Link) (bs : List Block) (b : Block) (z : Tested) (k : ℕ) → k < length bs
    → TestedAs l.edition (get_or bs k b).header (get_or (descrambled_all (payloads bs) l.history) k 0) (get_or (tested_all l bs) k z)
unfolding tested_all tested_of link_of descrambled_all
tested_at l [] b z k m = absurd (omega arith)
tested_at l (c ∷ bs) b z zero m = (kind_tested l c.header c.payload, refl)
tested_at l (c ∷ bs) b z (suc k) m = tested_at (link_of l c.header c.payload) bs b z k (omega arith)
