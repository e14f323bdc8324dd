-- There are lists that demand 2 speaks of: 65 vectors of idles and a frame of three vectors, the last of which ends it.
use mathlib.Core.Path.{refl}
use mathlib.Core.List.{List, [], ◌∷◌, ◌++◌, flatten}
use Prim.Native.Nat.{ℕ}
use lib.Dec.{lit≤}
use lib.ListN.{replicate}
use Rattle.refusals.specs.First.{first}
use Rattle.block.specs.Block.{edition_of, carrier, kind_for, vector_kind, vectors_in, vector_list}
use Rattle.control_bytes.specs.Control.{high_from, high_control}
use Rattle.diagrams.specs.Diagram.{diagram_of, after_idle, after_data, after_error}
use Rattle.sending.specs.Answer.{send_checks}
use Rattle.demands.specs.Words.{SendAccepts, legal_from, control_vector, control_vectors}
use Rattle.demands.specs.Demand2.{Returnable, Returned}
use Rattle.demands.proofs.Demand2.{demand_2}

-- eight idles
abbrev idle : List ℕ
idle = 0x0f ∷ 7 ∷ 7 ∷ 7 ∷ 7 ∷ 0x0f ∷ 7 ∷ 7 ∷ 7 ∷ 7 ∷ []

-- Start and preamble; eight octets; three octets, Terminate and idles
abbrev frame : List (List ℕ)
frame =
    (0x01 ∷ 0xfb ∷ 0x55 ∷ 0x55 ∷ 0x55 ∷ 0 ∷ 0x55 ∷ 0x55 ∷ 0x55 ∷ 0xd5 ∷ [])
    ∷ (0 ∷ 1 ∷ 2 ∷ 3 ∷ 4 ∷ 0 ∷ 5 ∷ 6 ∷ 7 ∷ 8 ∷ [])
    ∷ (0x08 ∷ 9 ∷ 10 ∷ 11 ∷ 0xfd ∷ 0x0f ∷ 7 ∷ 7 ∷ 7 ∷ 7 ∷ [])
    ∷ []

-- the bytes of the list
bytes : List ℕ
bytes = flatten (replicate 65 idle ++ frame)

-- sending accepts them
taken : SendAccepts 0 bytes 0 561
unfolding bytes flatten send_checks first high_control high_from
taken = refl

-- the demand speaks of them
returnable : Returnable (edition_of 0) (vector_list bytes)
unfolding bytes flatten vectors_in edition_of vector_kind carrier kind_for legal_from control_vectors control_vector diagram_of after_idle after_data after_error
returnable = record { is_legal = refl; long = lit≤ tt; starts_with_control = refl }

-- so they come back
returned : Returned (edition_of 0) bytes 0
returned = demand_2 0 bytes 0 561 taken returnable

-- ---- in the newer edition, with low power idle after the frame

-- eight characters 06
abbrev low : List ℕ
low = 0x0f ∷ 6 ∷ 6 ∷ 6 ∷ 6 ∷ 0x0f ∷ 6 ∷ 6 ∷ 6 ∷ 6 ∷ []

low_bytes : List ℕ
low_bytes = flatten (replicate 64 idle ++ frame ++ low ∷ [])

low_taken : SendAccepts 1 low_bytes 0 561
unfolding low_bytes flatten send_checks first high_control high_from
low_taken = refl

low_returnable : Returnable (edition_of 1) (vector_list low_bytes)
unfolding low_bytes flatten vectors_in edition_of vector_kind carrier kind_for legal_from control_vectors control_vector diagram_of after_idle after_data after_error
low_returnable = record { is_legal = refl; long = lit≤ tt; starts_with_control = refl }

low_returned : Returned (edition_of 1) low_bytes 0
low_returned = demand_2 1 low_bytes 0 561 low_taken low_returnable
