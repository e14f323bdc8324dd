-- Receiving in the old edition is what it was. Assumes nothing.
use mathlib.Core.Path.{◌≡◌, refl, ap, ap₂, ◌∙◌}
use mathlib.Core.Bool.{Bool, true, false, cond, ◌&&◌}
use mathlib.Core.List.{List, [], ◌∷◌, ◌++◌, map, flatten}
use Prim.Native.Nat.{ℕ}
use lib.ListN.{length, drop}
use Rattle.refusals.specs.First.{first as first_of, by_verdict}
use Rattle.block.specs.declared.Edition.{Edition}
use Rattle.block.specs.declared.Edition.TheVariants.{Old}
use Rattle.block.specs.Block.{edition_of, class_of, decoded, kind_in}
use Rattle.lock.specs.Lock.{slips_of}
use Rattle.diagrams.specs.declared.State.{State}
use Rattle.diagrams.specs.declared.State.TheVariants.{Init, LowPower}
use Rattle.diagrams.proofs.Laws.{never_low}
use Rattle.receiving.specs.Machine.{Tested, tested_of, valid_of}
use Rattle.receiving.specs.Receive.{Judged, lets_end, ends, state_of, answer, judge, answers, judged_alone, counts_of, handed_of, run_of, vectors_of, received_vectors}
use Rattle.receiving.specs.Reasons.{Taken, taken_blocks, taken_on, taken_plain}
use Rattle.receiving.specs.Answer.{received, refused, receive_checks, summary_of, receive_answer, receive_room}
use Rattle.receiving.specs.declared.Summary.{Summary}
use Rattle.receiving.proofs.Reasons.{test, tested_of_lem, AllOf, all_of}
use Rattle.editions.specs.Before.{class_before, step_before, tested_before, ends_before, judge_before, tested_on, judged_on, receive_checks_before, summary_before, receive_answer_before, vectors_before, receive_room_before}
use Rattle.editions.specs.Unchanged.{ReceivingUnchanged}
use Rattle.editions.proofs.OldKinds.{old_class, block_kind}
use Rattle.editions.proofs.Steps.{same_step, same_follows, first}

-- ---- the tested blocks

one_same : (t : Taken) → t.link.edition ≡ Old → test t ≡ tested_before t
unfolding tested_of
one_same t e = λ i. record {
  on = taken_on t;
  slipped = slips_of t.link.lock (valid_of t.header);
  class = class i;
  vector = vector i;
}
  where
    class : class_of t.link.edition t.header (taken_plain t) ≡ class_before t.header (taken_plain t)
    class = ap (λ (ed : Edition). class_of ed t.header (taken_plain t)) e ∙ old_class t.header (taken_plain t)

    vector : decoded t.link.edition t.header (taken_plain t) ≡ decoded Old t.header (taken_plain t)
    vector = ap (λ (ed : Edition). decoded ed t.header (taken_plain t)) e

all_same : (ts : List Taken) → AllOf Old ts → map test ts ≡ map tested_before ts
all_same [] w = refl
all_same (t ∷ ts) w = ap₂ (λ (u : Tested) (us : List Tested). u ∷ us) (one_same t w.0) (all_same ts w.1)

tested_same : (line : List ℕ) → (run_of Old line).tested ≡ tested_on line
tested_same line = tested_of_lem Old line ∙ all_same (taken_blocks Old line) (all_of Old line)

-- ---- the diagram over them

module _ (s : State) (t : Taken) (n : s ≡ LowPower → ⊥) (e : Bool) where
  state_same : state_of s (tested_before t) e ≡ cond (tested_before t).on (step_before s (kind_in (tested_before t).class) e) Init
  unfolding state_of
  state_same = ap (λ (z : State). cond (tested_before t).on z Init) (same_step s (kind_in (tested_before t).class) e n (block_kind t.header (taken_plain t)))

  state_on : cond (tested_before t).on (step_before s (kind_in (tested_before t).class) e) Init ≡ LowPower → ⊥
  state_on = go (tested_before t).on
    where
      go : (b : Bool) → cond b (step_before s (kind_in (tested_before t).class) e) Init ≡ LowPower → ⊥
      go true q = never_low s (kind_in (tested_before t).class) e (block_kind t.header (taken_plain t)) (same_step s (kind_in (tested_before t).class) e n (block_kind t.header (taken_plain t)) ∙ q)
      go false q = first q

ends_same : (ts : List Taken) → ends (map tested_before ts) ≡ ends_before (map tested_before ts)
unfolding ends lets_end
ends_same [] = refl
ends_same (t ∷ ts) = ap (λ (b : Bool). taken_on t && b) (same_follows (kind_in (tested_before t).class) (block_kind t.header (taken_plain t)))

judge_same : (s : State) (ts : List Taken) → (s ≡ LowPower → ⊥) → judge s (map tested_before ts) ≡ judge_before s (map tested_before ts)
unfolding judge judge_before
judge_same s [] n = refl
judge_same s (t ∷ ts) n =
    ap (λ (z : State). record { state = z; block = tested_before t } ∷ judge z (map tested_before ts))
    (ap (state_of s (tested_before t)) (ends_same ts) ∙ state_same s t n (ends_before (map tested_before ts)))
    ∙ ap (λ (js : List Judged). record { state = cond (tested_before t).on (step_before s (kind_in (tested_before t).class) (ends_before (map tested_before ts))) Init; block = tested_before t } ∷ js)
    (judge_same (cond (tested_before t).on (step_before s (kind_in (tested_before t).class) (ends_before (map tested_before ts))) Init) ts (state_on s t n (ends_before (map tested_before ts))))

-- ---- a whole line

module _ (line : List ℕ) where
  judged_same : judge Init (run_of Old line).tested ≡ judged_on line
  judged_same = ap (judge Init) (tested_same line) ∙ judge_same Init (taken_blocks Old line) first

  pub summary_same : summary_of Old line ≡ summary_before line
  unfolding summary_of summary_before vectors_of answers
  summary_same = λ i. record {
    counts = counts_of (tested_same line i);
    locked = (run_of Old line).end.link.lock.locked;
    high = (run_of Old line).end.link.rate.high;
    vectors = length (map answer (judged_same i));
    alone = judged_alone (judged_same i);
    handed = handed_of (judged_same i);
  }

  bytes_same : received_vectors Old line ≡ vectors_before line
  unfolding received_vectors vectors_of answers
  bytes_same = ap (λ (js : List Judged). flatten (map answer js)) judged_same

  answer_same : (room : ℕ) → receive_answer 0 line room ≡ receive_answer_before line room
  unfolding receive_answer receive_checks receive_answer_before edition_of first_of
  answer_same room = ap (λ (s : Summary). by_verdict (first_of (receive_checks_before (length line) room)) (received s) refused) summary_same

  pub room_same : (room : List ℕ) → receive_room 0 line room ≡ receive_room_before line room
  unfolding receive_room receive_checks receive_room_before edition_of first_of
  room_same room =
      ap (λ (vs : List ℕ). by_verdict (first_of (receive_checks_before (length line) (length room))) (vs ++ drop (length vs) room) (λ number place. room)) bytes_same

pub receiving_unchanged : ReceivingUnchanged
receiving_unchanged line room r room' p = (p.0 ∙ answer_same line (length room), p.1 ∙ room_same line room)
