-- Document 01, 'Diagrams', Receive: the diagram over the tested blocks, with a look at the next.
use Rattle.std.specs.Prelude.{ℕ, Bool, true, false, cond, ◌&&◌, length, eqb}
use mathlib.Core.List.{List, [], ◌∷◌, map, flatten}
use Rattle.bits.specs.Bits.{line_bits}
use Rattle.bits.specs.Lists.{how_many}
use Rattle.block.specs.declared.Edition.{Edition}
use Rattle.block.specs.Block.{error_vector, local_fault_vector, is_s, kind_in, class_number}
use Rattle.block.specs.declared.Reason.{Reason}
use Rattle.block.specs.declared.Reason.TheVariants.{Header, BlockType, ControlCode, SetCode}
use Rattle.block.specs.declared.Class.{Class}
use Rattle.block.specs.declared.Class.TheVariants.{Bad}
use Rattle.diagrams.specs.Diagram.{diagram_of, follows}
use Rattle.diagrams.specs.declared.State.{State}
use Rattle.diagrams.specs.declared.State.TheVariants.{Init, Control, Data, Terminate, Error, LowPower}
use Rattle.receiving.specs.Machine.{Tested, Run, run, at, link_fresh}
use Rattle.receiving.specs.declared.Counts.{Counts}
use Rattle.receiving.specs.declared.Handed.{Handed}

-- Whether the next block is S or C, or LI: it "counts as E if testing it leaves the receiver not locked or high". Document 02, 6/13: "A
-- missing next block now counts as C", where document 01 had it as E.
unfoldable pub lets_end : Tested → Bool
lets_end t = t.on && follows (kind_in t.class)

unfoldable pub ends : List Tested → Bool
ends [] = true
ends (t ∷ ts) = lets_end t

-- "Not locked or high: state INIT .. Else" the diagram's step
unfoldable pub state_of : State → Tested → Bool → State
state_of s t ends = cond t.on (diagram_of s (kind_in t.class) ends) Init

-- "INIT, answer the Local Fault vector .. State E answers the error vector, the others the decoded block." 9/13: "An added state ..
-- answers the decoded one".
unfoldable pub answer_in : State → List ℕ → List ℕ
answer_in Init decoded = local_fault_vector
answer_in Error decoded = error_vector
answer_in Control decoded = decoded
answer_in Data decoded = decoded
answer_in Terminate decoded = decoded
answer_in LowPower decoded = decoded

-- a tested block, and the state of the diagram that it leads to
pub record Judged : Type 0 where
  pub state : State
  pub block : Tested

-- the tested blocks in their states, from a state of the diagram
unfoldable pub judge : State → List Tested → List Judged
judge s [] = []
judge s (t ∷ ts) =
    let s' = state_of s t (ends ts) in
    record { state = s'; block = t } ∷ judge s' ts

-- the vector of a block, and those of all: "one for each tested block"
abbrev pub answer : Judged → List ℕ
answer j = answer_in j.state j.block.vector

unfoldable pub answers : State → List Tested → List (List ℕ)
answers s ts = map answer (judge s ts)

-- state T of the diagram
abbrev pub is_terminate : State → Bool
is_terminate Init = false
is_terminate Control = false
is_terminate Data = false
is_terminate Terminate = true
is_terminate Error = false
is_terminate LowPower = false

-- whether the last element of a list passes a test; not where there is none
unfoldable pub last_is : {A : Type 0} → (A → Bool) → List A → Bool
last_is test [] = false
last_is test (x ∷ []) = test x
last_is test (x ∷ y ∷ xs) = last_is test (y ∷ xs)

-- Document 02, 6/13: "a flag that the last vector was judged without its successor, set exactly when it is an accepted Terminate"
abbrev pub judged_alone : List Judged → Bool
judged_alone js = last_is (λ j. is_terminate j.state) js

-- ---- the counts

-- whether a block of this class is bad for this reason
abbrev pub bad_for : Reason → Class → Bool
bad_for r k = eqb (class_number k) (class_number (Bad r))

-- of the tested blocks: how many they are, and how many slipped. "Receiving counts the four reasons over all blocks tested" (document 02, 1/13).
unfoldable pub counts_of : List Tested → Counts
counts_of ts =
    record {
      tested = length ts;
      slips = how_many (λ t. t.slipped) ts;
      headers = how_many (λ t. bad_for Header t.class) ts;
      types = how_many (λ t. bad_for BlockType t.class) ts;
      codes = how_many (λ t. bad_for ControlCode t.class) ts;
      sets = how_many (λ t. bad_for SetCode t.class) ts;
    }

-- the states that answer the decoded block, and the state that answers the error vector
abbrev pub decodes : State → Bool
decodes Init = false
decodes Control = true
decodes Data = true
decodes Terminate = true
decodes Error = false
decodes LowPower = true

abbrev pub errs : State → Bool
errs Init = false
errs Control = false
errs Data = false
errs Terminate = false
errs Error = true
errs LowPower = false

-- Document 02, 3/13: "begun means a block of kind S answered as decoded, replaced means answered as the error vector"
abbrev pub begins : Judged → Bool
begins j = is_s (kind_in j.block.class) && decodes j.state

abbrev pub replaces : Judged → Bool
replaces j = errs j.state

-- of the vectors handed out: frames begun and vectors replaced
unfoldable pub handed_of : List Judged → Handed
handed_of js = record { begun = how_many begins js; replaced = how_many replaces js }

-- ---- a fresh receiver of an edition over a whole line

unfoldable pub run_of : Edition → List ℕ → Run
run_of ed line = run (at (link_fresh ed)) (line_bits line)

-- its blocks in their states
abbrev pub judged_of : Edition → List ℕ → List Judged
judged_of ed line = judge Init (run_of ed line).tested

-- its vectors, and their bytes
unfoldable pub vectors_of : Edition → List ℕ → List (List ℕ)
vectors_of ed line = answers Init (run_of ed line).tested

unfoldable pub received_vectors : Edition → List ℕ → List ℕ
received_vectors ed line = flatten (vectors_of ed line)
