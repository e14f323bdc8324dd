-- What judging one record comes to, in each of the cases that the code tells apart: the step's number, and the whole store.
use Prim.Native.Nat.{ℕ, ◌+◌, ◌-◌, ◌≤◌, ◌<◌}
use mathlib.Core.Path.{◌≡◌, refl, sym, ap, ◌∙◌}
use mathlib.Core.List.{List, ◌++◌}
use native.Mathlib.Omega.{arith}
use native.Mathlib.Nat.{le_refl}
use lib.ListN.{length, take, drop, take-append-drop, length-append}
use lib.Seq.{length-take-le}
use lib.Dec.{ltb, eqb}
use borrow.Author.Tests.{eq-eqb, ne_eqb, lt-ltb, le-ltb, ltb-false}
use Rattle.refusals.specs.First.{first}
use Rattle.putting.specs.Overlaid.{overlaid}
use Rattle.putting.proofs.Laws.{overlaid_on}
use Rattle.records.specs.Record.{Answer, whole, end, refused, read_at, body_of}
use Rattle.refusals.proofs.Laws.{by_test}
use Rattle.records.proofs.Laws.{body_length}
use Rattle.gather.specs.Gather.{judged, Gathered, more, next, RecordRead, window, failure, next_read, bytes_in, Turn, so_far, in_all, refusal, turn_in}

-- What is gathered stays in the store, from its start on.
pub kept : (used : ℕ) (store : List ℕ) → used ≤ length store → overlaid 0 (take used store) store ≡ store
unfolding overlaid
kept used store h =
    let n : 0 + length (take used store) ≡ used = omega (arith, length-take-le used store h) in
    ap (λ (k : ℕ). take used store ++ drop k store) n ∙ take-append-drop used store

-- A body is put after it.
pub grown : (used : ℕ) (store body : List ℕ) → used + length body ≤ length store → overlaid used body store ≡ overlaid 0 (take used store ++ body) store
grown used store body h =
    let l = length-take-le used store (omega arith) in
    ap (overlaid used body) (sym (kept used store (omega arith)))
    ∙ overlaid_on 0 used (take used store) body store (omega arith) (omega arith)

module _ (limit kind used : ℕ) (w store : List ℕ) (fits : used ≤ length store) where
  -- What a step says and leaves in the store, where the gathering then stands so.
  abbrev pub Step : Turn → List ℕ → Gathered → Type 0
  Step turn exit g = (turn ≡ turn_in g) × (exit ≡ overlaid 0 (bytes_in g) store)

  -- The same for the record in the window.
  abbrev pub Judged : Turn → List ℕ → Type 0
  Judged turn exit = Step turn exit (next limit kind (length store) w 0 (more (take used store)))

  -- The records ended.
  pub ended : read_at limit w 0 ≡ end → Judged (in_all used) store
  ended e = simp e (ap in_all (sym (length-take-le used store fits)), sym (kept used store fits))

  -- The reader refuses.
  pub refuses : (n p : ℕ) → read_at limit w 0 ≡ refused n p → Judged (refusal n) store
  refuses n p e = simp e (refl, sym (kept used store fits))

  module _ (k start len nx : ℕ) (found : read_at limit w 0 ≡ whole k start len nx) where
    -- A record of the other kind.
    pub other_kind : (k ≡ kind → ⊥) → Judged (refusal 8) store
    unfolding first
    other_kind d = simp (found, ne_eqb k kind d) (refl, sym (kept used store fits))

    -- More than the store holds.
    pub too_much : k ≡ kind → length store - used < len → Judged (refusal 1) store
    unfolding first
    too_much e m =
        let t = lt-ltb (length store) (length (take used store) + len) (omega (arith, length-take-le used store fits)) in
        simp (found, eq-eqb k kind e, t) (refl, sym (kept used store fits))

    -- A record that is taken.
    pub taken : (body exit : List ℕ) → k ≡ kind → len ≤ length store - used → body ≡ body_of w start len → exit ≡ overlaid used body store → Judged (so_far (used + len)) exit
    unfolding first
    taken body exit e m b x =
        let t = le-ltb (length store) (length (take used store) + len) (omega (arith, length-take-le used store fits)) in
        let n = body_length limit w 0 k start len nx found in
        let l : length (take used store ++ body_of w start len) ≡ used + len = omega (arith, length-append (take used store) (body_of w start len), length-take-le used store fits, n) in
        simp (found, eq-eqb k kind e, t) (ap so_far (sym l), x ∙ ap (λ (p : List ℕ). overlaid used p store) b ∙ grown used store (body_of w start len) (omega (arith, n)))

-- What is gathered only grows, up to the most that is gathered.
grows_on : (limit kind most : ℕ) (s : List ℕ) (at : ℕ) (bytes : List ℕ) (a : Answer) → length bytes ≤ most → read_at limit s at ≡ a
    → (length bytes ≤ length (bytes_in (judged kind most s bytes a))) × (length (bytes_in (judged kind most s bytes a)) ≤ most)
unfolding first
grows_on limit kind most s at bytes end h e = (le_refl (length bytes), h)
grows_on limit kind most s at bytes (refused n p) h e = (le_refl (length bytes), h)
grows_on limit kind most s at bytes (whole k start len nx) h e =
    by_test (eqb k kind)
    (λ t. by_test (ltb most (length bytes + len))
    (λ u. simp (t, u) (le_refl (length bytes), h))
    (λ u. let n = body_length limit s at k start len nx e in
    let l = length-append bytes (body_of s start len) in
    let m = ltb-false most (length bytes + len) u in
    simp (t, u) (omega arith, omega arith)))
    (λ t. simp t (le_refl (length bytes), h))

-- The same of one read.
pub grows : (limit kind most : ℕ) (r : RecordRead) (bytes : List ℕ) → length bytes ≤ most
    → let g = next_read limit kind most r (more bytes) in (length bytes ≤ length (bytes_in g)) × (length (bytes_in g) ≤ most)
grows limit kind most (window w) bytes h = grows_on limit kind most w 0 bytes (read_at limit w 0) h refl
grows limit kind most failure bytes h = (le_refl (length bytes), h)
