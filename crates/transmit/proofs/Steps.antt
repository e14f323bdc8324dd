-- One vector sent. Assumes nothing.
use Prim.Native.Nat.{ℕ, ◌+◌, ◌^◌, ◌<◌}
use mathlib.Core.Path.{◌≡◌, refl, sym, ap, ◌∙◌, subst}
use mathlib.Core.List.{List, [], ◌∷◌}
use mathlib.Core.Logic.{⊎_elim}
use native.Mathlib.Nat.{add-zero}
use native.Mathlib.Omega.{arith}
use Rattle.block.specs.Block.{Carrier, block, none, carrier, carrier_kind, vector_kind}
use Rattle.block.proofs.Sending.{carrier_header}
use Rattle.block.specs.Coded.{coded_of}
use Rattle.block.specs.declared.Coded.{Coded}
use Rattle.diagrams.specs.Diagram.{transmit_of}
use Rattle.block.specs.declared.Edition.{Edition}
use Rattle.diagrams.specs.declared.State.{State}
use Rattle.diagrams.specs.declared.State.TheVariants.{Init, Control, Data, Terminate, Error, LowPower}
use Rattle.scrambler.specs.Scrambler.{scrambled, history_after}
use Rattle.scrambler.specs.declared.Scrambled.{Scrambled}
use Rattle.scrambler.proofs.Laws.{history_after_lt}
use Rattle.line.specs.BlockNumber.{block_number}
use Rattle.line.specs.declared.Block.{Block}
use Rattle.transmit.specs.Send.{own_block, block_in, replaced_in, state_after, replaced, sent_blocks, line_words, history_over}
use Rattle.transmit.specs.declared.Sender.{Sender}
use Rattle.transmit.specs.declared.Choice.{Choice}
use Rattle.transmit.specs.declared.Step.{Step}
use Rattle.transmit.specs.Steps.{chosen_block, SentOne, Chooses, step_of, Scrambles, Goes}

-- encoding answers the vector's kind, its own block, and a header of two bits
kind_of_lem : (c : Carrier) → (coded_of c).kind ≡ carrier_kind c
kind_of_lem (block k h x) = refl
kind_of_lem none = refl

own_of : (c : Carrier) → own_block c ≡ record { header = (coded_of c).header; payload = (coded_of c).payload }
own_of (block k h x) = refl
own_of none = refl

module _ (ed : Edition) where
  header_of_lem : (v : List ℕ) (c : Carrier) → carrier ed v ≡ c → (coded_of c).header < 4
  header_of_lem v (block k h x) e = ⊎_elim (λ z. omega arith) (λ z. omega arith) (carrier_header ed v k h x e)
  header_of_lem v none e = omega arith

  -- the chosen_block block is the definition's, with a header of two bits
  record Chosen (t : State) (v : List ℕ) (b : Block) : Type 0 where
    own : block_in ed t v ≡ chosen_block t b
    small : (chosen_block t b).header < 4

  chosen_error : (v : List ℕ) (b : Block) → Chosen Error v b
  unfolding block_in
  chosen_error v b = record { own = refl; small = omega arith }

  chosen_own : (t : State) (v : List ℕ) (b : Block) → own_block (carrier ed v) ≡ b → b.header < 4 → Chosen t v b
  unfolding block_in
  chosen_own Init v b e l = record { own = e; small = l }
  chosen_own Control v b e l = record { own = e; small = l }
  chosen_own Data v b e l = record { own = e; small = l }
  chosen_own Terminate v b e l = record { own = e; small = l }
  chosen_own LowPower v b e l = record { own = e; small = l }
  chosen_own Error v b e l = chosen_error v b

  step : (e : Coded) (s : Sender) (c : Choice) (out : Scrambled) (v : List ℕ) → e ≡ coded_of (carrier ed v) → Chooses e s c
      → out.word ≡ scrambled c.block.payload s.history → out.history ≡ history_after c.block.payload s.history
      → SentOne ed s v (step_of c s.history out)
  unfolding state_after replaced sent_blocks line_words history_over vector_kind
  step e s c out v ev ch ew eh =
      let t = c.diagram in
      let u = s.diagram in
      let own : Block = record { header = e.header; payload = e.payload } in
      let d : Chosen t v own =
      chosen_own t v own (own_of (carrier ed v) ∙ ap (λ (q : Coded). record { header = q.header; payload = q.payload }) (sym ev))
      (subst (λ (q : Coded). q.header < 4) (sym ev) (header_of_lem v (carrier ed v) refl)) in
      let n : t ≡ transmit_of u (vector_kind ed v) = ch.diagram ∙ ap (transmit_of u) (ap (λ (q : Coded). q.kind) ev ∙ kind_of_lem (carrier ed v)) in
      let o : block_in ed (transmit_of u (vector_kind ed v)) v ≡ c.block = ap (λ (q : State). block_in ed q v) (sym n) ∙ d.own ∙ sym ch.block in
      record {
        sends =
            record {
              diagram = n;
              history = eh ∙ ap (λ (q : Block). history_after q.payload s.history) (sym o);
              count = ch.count ∙ ap (λ (m : ℕ). s.replaced + m) (ap replaced_in n ∙ sym (add-zero _));
              line =
                  ap (λ (p : ℕ). block_number (record { header = c.block.header; payload = p }) ∷ []) ew
                  ∙ ap (λ (q : Block). block_number (record { header = q.header; payload = scrambled q.payload s.history }) ∷ []) (sym o);
            };
        header = subst (λ (q : Block). q.header < 4) (sym ch.block) d.small;
      }

-- it went out after the history where s stands
pub goes : (e : Coded) (s : Sender) (c : Choice) (out : Scrambled) → s.history < 2 ^ 58 → Chooses e s c
    → out.word ≡ scrambled c.block.payload s.history → out.history ≡ history_after c.block.payload s.history
    → Goes e s (step_of c s.history out)
goes e s c out l ch ew eh =
    record {
      steps = λ ed v ev. step ed e s c out v ev ch ew eh;
      scrambles = record { before = l; payload = ew; after = eh };
      history = subst (λ (h : ℕ). h < 2 ^ 58) (sym eh) (history_after_lt c.block.payload s.history l);
      few = ch.few;
    }

-- it went out after another, whose payload and history before it are known
pub goes_after : (e : Coded) (b : Step) (c : Choice) (out : Scrambled) → Scrambles b → Chooses e b.next c
    → out.word ≡ scrambled c.block.payload (history_after b.plain b.history)
    → out.history ≡ history_after c.block.payload (history_after b.plain b.history)
    → Goes e b.next (step_of c b.next.history out)
goes_after e b c out w ch ew eh =
    goes e b.next c out (subst (λ (h : ℕ). h < 2 ^ 58) (sym w.after) (history_after_lt b.plain b.history w.before)) ch
    (ew ∙ ap (scrambled c.block.payload) (sym w.after)) (eh ∙ ap (history_after c.block.payload) (sym w.after))
