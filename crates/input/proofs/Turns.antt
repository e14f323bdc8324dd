-- What the loop over the input keeps, and what one turn does.
use Prim.Native.Nat.{ℕ, ◌+◌, ◌-◌, ◌^◌, ◌≤◌}
use mathlib.Core.Path.{◌≡◌, refl, sym, ap, subst, ◌∙◌}
use mathlib.Core.List.{List, [], ◌∷◌, ◌++◌}
use native.Mathlib.Omega.{arith}
use lib.ListN.{length, take, length-append}
use lib.Seq.{length-take-le, take_all}
use Rattle.putting.specs.Overlaid.{overlaid}
use Rattle.putting.proofs.Laws.{overlaid_none, overlaid_length, overlaid_over, overlaid_take}
use Rattle.records.specs.Record.{body_limit, wanted_of}
use Rattle.gather.specs.Gather.{Gathered, more, done, stop, failed, RecordRead, next_read, read_of, count_of, bytes_in, so_far, turn_in, turn_of, Shows}
use Rattle.gather.specs.File.{gathered_after, record_window, IsWindow, Going, on, InTurn}
use Rattle.gather.specs.declared.Step.{Step}
use Rattle.gather.specs.declared.Step.TheVariants as Case
use Rattle.gather.specs.declared.Stop.{Stop}
use Rattle.gather.specs.declared.Stop.TheVariants as Why
use Rattle.std.specs.Prelude.{Result, Ok, Err}
use Rattle.gather.proofs.File.{after_one, in_turn_one}
use Rattle.gather.proofs.Judged.{grows}
use Rattle.input.specs.Read.{WindowIn, Gathers}

-- A read that did not fail is one window.
pub is_window : {E : Type 0} (buffer : List ℕ) (read : Result ℕ E) → WindowIn buffer read → IsWindow body_limit (read_of read buffer)
unfolding record_window
is_window buffer (Ok n) w =
    let l = length-take-le n buffer w.0 in
    take_all (4 + wanted_of body_limit (take 4 (take n buffer))) (take n buffer) (omega (arith, w.1))
is_window buffer (Err e) w = tt

-- It is no longer than the buffer.
pub in_buffer : {E : Type 0} (buffer : List ℕ) (read : Result ℕ E) → WindowIn buffer read → count_of read ≤ length buffer
in_buffer buffer (Ok n) w = w.0
in_buffer buffer (Err e) w = omega arith

-- Reads were made, there was no end, no refusal and no failed read, and the store holds from its start on what they gave.
pub record SoFar (kind : ℕ) (entry store : List ℕ) (used turns : ℕ) : Type 0 where
  pub reads : List RecordRead
  pub in_turn : InTurn body_limit kind (length entry) reads (more [])
  pub held : gathered_after body_limit kind (length entry) reads (more []) ≡ more (take used store)
  pub kept : store ≡ overlaid 0 (take used store) entry
  pub same : length store ≡ length entry
  pub fits : used ≤ length store
  pub count : length reads ≡ turns

-- Nothing is read at first.
pub turn_first : (kind : ℕ) (store : List ℕ) → SoFar kind store store 0 0
unfolding gathered_after
turn_first kind store = record { reads = []; in_turn = tt; held = refl; kept = sym (overlaid_none 0 store); same = refl; fits = omega arith; count = refl }

-- More records may come only where the gathering stands so.
still_more : (g : Gathered) (n : ℕ) → so_far n ≡ turn_in g → (g ≡ more (bytes_in g)) × (length (bytes_in g) ≡ n)
still_more (more b) n e = (refl, cc)
still_more (done b) n e = absurd (let z : ◌≡◌ {A = ℕ} 0 1 = cc in omega arith)
still_more (stop k b) n e = absurd (let z : ◌≡◌ {A = ℕ} 0 1 = cc in omega arith)
still_more (failed b) n e = absurd (let z : ◌≡◌ {A = ℕ} 0 1 = cc in omega arith)

-- The other step says that no more come, and so does what stops the gathering.
pub no_more : (step : Step) → ((m : ℕ) → step ≡ Case.More m → ⊥) → (n : ℕ) → turn_of (Ok step) ≡ so_far n → ⊥
no_more (Case.More m) o n e = o m refl
no_more (Case.Done m) o n e = absurd (let z : ◌≡◌ {A = ℕ} 0 1 = cc in omega arith)

pub none_after : (stop : Stop) (n : ℕ) → turn_of (Err stop) ≡ so_far n → ⊥
none_after (Why.Refused why) n e = absurd (let z : ◌≡◌ {A = ℕ} 0 1 = cc in omega arith)
none_after Why.Failed n e = absurd (let z : ◌≡◌ {A = ℕ} 0 1 = cc in omega arith)

module _ {E : Type 0} (kind used turns : ℕ) (entry store exit : List ℕ) (step : Result Step Stop) (got : Result ℕ E) (buffer : List ℕ) (g : SoFar kind entry store used turns) (w : WindowIn buffer got)
    (s : Shows (next_read body_limit kind (length store) (read_of got buffer) (more (take used store))) store step exit) where
  -- what was read
  abbrev r : RecordRead
  r = read_of got buffer

  -- where the gathering then stands
  abbrev then : Gathered
  then = next_read body_limit kind (length store) r (more (take used store))

  -- the reads made by then
  abbrev made : List RecordRead
  made = g.reads ++ r ∷ []

  -- They were made in turn.
  turned : InTurn body_limit kind (length entry) made (more [])
  turned = in_turn_one body_limit kind (length entry) g.reads r (more []) g.in_turn (subst Going (sym g.held) (on (take used store))) (is_window buffer got w)

  -- They give that.
  joined : gathered_after body_limit kind (length entry) made (more []) ≡ then
  joined =
      after_one body_limit kind (length entry) g.reads r (more [])
      ∙ ap (next_read body_limit kind (length entry) r) g.held
      ∙ ap (λ (n : ℕ). next_read body_limit kind n r (more (take used store))) (sym g.same)

  -- What is gathered only grows, and fits the store.
  bounds : (length (take used store) ≤ length (bytes_in then)) × (length (bytes_in then) ≤ length store)
  bounds = grows body_limit kind (length store) r (take used store) (let l = length-take-le used store g.fits in omega (arith, g.fits))

  -- The store holds it from its start on.
  stored : exit ≡ overlaid 0 (bytes_in then) entry
  stored = s.1 ∙ ap (overlaid 0 (bytes_in then)) g.kept ∙ overlaid_over (take used store) (bytes_in then) entry bounds.0 (let b = bounds.1 in omega (arith, g.same))

  -- The outcome, where it is over.
  pub turn_last : ((n : ℕ) → turn_of step ≡ so_far n → ⊥) → Gathers kind entry step exit
  turn_last over =
      record {
        reads = made;
        in_turn = turned;
        shows = (s.0 ∙ ap turn_in (sym joined), stored ∙ ap (λ (x : Gathered). overlaid 0 (bytes_in x) entry) (sym joined));
        many = λ n e. absurd (over n e);
      }

  -- A record was taken.
  pub turn_more : (n : ℕ) → step ≡ Ok (Case.More n) → SoFar kind entry exit n (turns + 1)
  turn_more n e =
      let m = still_more then n (sym (ap turn_of e) ∙ s.0) in
      let b = bounds.1 in
      let u : take n exit ≡ bytes_in then = ap (λ (k : ℕ). take k exit) (sym m.1) ∙ ap (take (length (bytes_in then))) stored ∙ overlaid_take (bytes_in then) entry in
      let l : length exit ≡ length entry = ap length stored ∙ overlaid_length 0 (bytes_in then) entry (omega (arith, g.same)) in
      record {
        reads = made;
        in_turn = turned;
        held = joined ∙ m.0 ∙ ap more (sym u);
        kept = stored ∙ ap (λ (x : List ℕ). overlaid 0 x entry) (sym u);
        same = l;
        fits = omega (arith, g.same, m.1);
        count = omega (arith, length-append g.reads (r ∷ []), g.count);
      }

-- The turns were used up.
pub turns_up : (kind used turns : ℕ) (entry store : List ℕ) → SoFar kind entry store used turns → turns ≡ 2 ^ 64 - 1 → Gathers kind entry (Ok (Case.More used)) store
turns_up kind used turns entry store g z =
    record {
      reads = g.reads;
      in_turn = g.in_turn;
      shows = (ap so_far (sym (length-take-le used store g.fits)) ∙ ap turn_in (sym g.held), g.kept ∙ ap (λ (x : Gathered). overlaid 0 (bytes_in x) entry) (sym g.held));
      many = λ n e. omega (arith, g.count);
    }
