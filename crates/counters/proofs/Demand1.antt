-- Demand 1 of receiving with a lent record of counters, proved over the definitions. Assumes nothing.
use Prim.Native.Nat.{ℕ}
use mathlib.Core.Path.{◌≡◌}
use mathlib.Core.List.{List, ◌++◌}
use lib.ListN.{length, drop}
use Rattle.refusals.specs.First.{Verdict, accepted, refused, first, by_verdict}
use Rattle.refusals.proofs.Outcome.{outcome}
use Rattle.block.specs.Block.{edition_of}
use Rattle.receiving.specs.Receive.{received_vectors}
use Rattle.receiving.specs.Answer as Receiving
use Rattle.receiving.specs.declared.Summary.{Summary}
use Rattle.counters.specs.Counters.{updated, counters_after}
use Rattle.counters.specs.declared.Counters.{Counters}
use Rattle.counters.specs.Demand1.{Demand1OfReceiveCounting}

-- answer, room and counters, each by the same verdict
all_three : (v : Verdict) (s : Summary) (written room : List ℕ) (c : Counters) (answer : Receiving.ReceiveAnswer) (room' : List ℕ) (c' : Counters)
    → answer ≡ by_verdict v (Receiving.received s) Receiving.refused → room' ≡ by_verdict v written (λ number place. room)
    → c' ≡ counters_after c (by_verdict v (Receiving.received s) Receiving.refused)
    → ◌≡◌ {A = Receiving.ReceiveAnswer × List ℕ × Counters} (answer, room', c')
    (by_verdict v (Receiving.received s, written, updated c s.counts s.handed) (λ number place. (Receiving.refused number place, room, c)))
all_three accepted s written room c answer room' c' e f g = λ i. (e i, f i, g i)
all_three (refused n q) s written room c answer room' c' e f g = λ i. (e i, f i, g i)

pub demand_1_of_receive_counting : Demand1OfReceiveCounting
unfolding Receiving.receive_answer Receiving.receive_room
demand_1_of_receive_counting edition line room c r room' c' p =
    let vectors = received_vectors (edition_of edition) line in
    outcome _ _ _ _
    (all_three (first (Receiving.receive_checks edition (length line) (length room))) (Receiving.summary_of (edition_of edition) line)
    (vectors ++ drop (length vectors) room) room c (Receiving.answer_of r) room' c' p.0.0 p.0.1 p.1)
