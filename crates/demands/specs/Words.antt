-- The words of demand 2, over the definitions of sending: document 01, 'Diagrams' and 'Refusal numbers'.
use Rattle.std.specs.Prelude.{ℕ, ◌≡◌, Bool, true, false, not, ◌&&◌, List, [], ◌∷◌}
use Rattle.refusals.specs.First.{first, accepted}
use Rattle.block.specs.declared.Edition.{Edition}
use Rattle.block.specs.Block.{is_c, vector_kind}
use Rattle.diagrams.specs.Diagram.{transmit_of}
use Rattle.diagrams.specs.declared.State.{State}
use Rattle.diagrams.specs.declared.State.TheVariants.{Init, Control, Data, Terminate, Error, LowPower}
use Rattle.sending.specs.Answer.{send_checks}
use Rattle.receiving.specs.declared.Summary.{Summary}

-- Sending accepts vector bytes, in an edition, from a start state and with room for the line: none of its refusals applies.
abbrev pub SendAccepts : (edition : ℕ) (bytes : List ℕ) (start room : ℕ) → Type 0
SendAccepts edition bytes start room = first (send_checks edition bytes start room) ≡ accepted

-- state E of the diagrams
abbrev pub in_error : State → Bool
in_error Init = false
in_error Control = false
in_error Data = false
in_error Terminate = false
in_error Error = true
in_error LowPower = false

module _ (ed : Edition) where
  -- "A list is legal when no vector leads to E.": from a state of the transmit diagram, and "from INIT"
  unfoldable pub legal_from : State → List (List ℕ) → Bool
  legal_from s [] = true
  legal_from s (v ∷ vs) =
      let s' = transmit_of s (vector_kind ed v) in
      not (in_error s') && legal_from s' vs

  abbrev pub legal : List (List ℕ) → Bool
  legal vectors = legal_from Init vectors

  -- "A control vector is one of kind C."
  unfoldable pub control_vector : List ℕ → Bool
  control_vector v = is_c (vector_kind ed v)

  -- every vector of a list is a control vector
  unfoldable pub control_vectors : List (List ℕ) → Bool
  control_vectors [] = true
  control_vectors (v ∷ vs) = control_vector v && control_vectors vs

-- a summary of n blocks tested with no slip, a vector for each, that leave the receiver locked and not high
pub record Unbroken (n : ℕ) (s : Summary) : Type 0 where
  pub tested : s.counts.tested ≡ n
  pub slips : s.counts.slips ≡ 0
  pub locked : s.locked ≡ true
  pub high : s.high ≡ false
  pub vectors : s.vectors ≡ n
