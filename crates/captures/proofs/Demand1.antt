-- Demand 1 of the entry points that hand a record's body on, proved over the definitions. Assumes nothing.
use Prim.Native.Nat.{ℕ}
use mathlib.Core.Path.{◌≡◌, refl, ap₂, ◌∙◌}
use mathlib.Core.Bool.{Bool, true, false, cond}
use mathlib.Core.List.{List}
use lib.Dec.{leb}
use lib.ListN.{length}
use Rattle.refusals.specs.First.{Verdict, accepted, refused, first, by_verdict}
use Rattle.records.proofs.Demand1.{outcome_at}
use Rattle.sending.specs.Answer as Sending
use Rattle.receiving.specs.Answer as Receiving
use Rattle.captures.specs.Captures as Captures
use Rattle.captures.specs.Demand1.{OfRecord, Demand1OfSendRecord, Demand1OfReceiveRecord}

-- what is answered to the body of a record and what is left of the room, each by the same test and the same verdict
both_by : {A : Type 0} (past : Bool) (v : Verdict) (bytes room : List ℕ) (f : List ℕ → A) (g : List ℕ → List ℕ)
    → ◌≡◌ {A = Captures.Recorded A × List ℕ} (
      Captures.answering f (cond past Captures.end (by_verdict v (Captures.body bytes) Captures.refused)),
      Captures.leaving g room (cond past Captures.end (by_verdict v (Captures.body bytes) Captures.refused)),
    )
    (cond past (Captures.end, room) (by_verdict v (Captures.body (f bytes), g bytes) (λ number at. (Captures.refused number at, room))))
both_by true v bytes room f g = refl
both_by false accepted bytes room f g = refl
both_by false (refused n p) bytes room f g = refl

-- a record's body handed on
of_record : {A : Type 0} (kind : ℕ) (file : List ℕ) (place : ℕ) (room : List ℕ) (came : Captures.Recorded A) (room' : List ℕ) (f : List ℕ → A) (g : List ℕ → List ℕ)
    → came ≡ Captures.answering f (Captures.body_of_kind kind file place) → room' ≡ Captures.leaving g room (Captures.body_of_kind kind file place)
    → OfRecord {A = A} kind file place room (came, room') (λ bytes. (f bytes, g bytes))
unfolding Captures.body_of_kind
of_record {A} kind file place room came room' f g e h =
    outcome_at file place _ (Captures.record_checks kind file place) _ _ _
    (ap₂ (λ (x : Captures.Recorded A) (y : List ℕ). (x, y)) e h
    ∙ both_by (leb (length file) place) (first (Captures.record_checks kind file place)) (Captures.body_at file place) room f g)

-- sending the vectors of a record
pub demand_1_of_send_record : Demand1OfSendRecord
demand_1_of_send_record file place start room r room' p =
    of_record 1 file place room (Captures.sent_of r) room' (λ vectors. Sending.send_answer 0 vectors start (length room)) (λ vectors. Sending.send_room 0 vectors start room) p.0 p.1

-- receiving the line of a record
pub demand_1_of_receive_record : Demand1OfReceiveRecord
demand_1_of_receive_record file place room r room' p =
    of_record 2 file place room (Captures.received_of r) room' (λ line. Receiving.receive_answer 0 line (length room)) (λ line. Receiving.receive_room 0 line room) p.0 p.1
