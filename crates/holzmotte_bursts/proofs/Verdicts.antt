-- The checks of a call through C: a state too short, a summary or counters too short, and else those of the call itself. Assumes nothing.
use Prim.Native.Nat.{ℕ, ◌+◌, ◌*◌, ◌^◌, ◌≤◌, ◌<◌}
use mathlib.Core.Path.{◌≡◌, refl, sym, ap, ap₂, ◌∙◌}
use mathlib.Core.Bool.{Bool, true, false}
use mathlib.Core.List.{List, [], ◌∷◌, ◌++◌}
use native.Mathlib.Omega.{arith}
use lib.ListN.{length, take, drop}
use lib.Dec.{ltb, lit<}
use borrow.Author.Tests.{lt-ltb, le-ltb, ltb-false}
use Rattle.refusals.specs.First.{Check, check, Verdict, accepted, refused, first, by_verdict}
use Rattle.refusals.proofs.Laws.{passed, skipped}
use Rattle.lent_words.specs.Words.{result_of, too_short, one_more_after}
use Rattle.slices.specs.Slices.{short_slice}
use Rattle.lent_words.proofs.Laws.{first_after, place_zero, Numbered, refusal_above, result_zero}
use Rattle.lent_words.proofs.Applied.{cut_off, never}
use Rattle.kept_state.specs.declared.State.{State}
use Rattle.judging.specs.Judging.{room_for, burst_checks, burst_verdict}
use Rattle.bursts.specs.Burst.{state_fresh, begun, begin_answer}
use Rattle.bursts.specs.Burst as Burst
use Rattle.stored.specs.Stored.{state_in, stored_in}
use Rattle.holzmotte_bursts.specs.Boundary.{begin_verdict, BeginsThroughC, verdict}

-- ---- a fresh state

module _ (edition : ℕ) (state : List ℕ) where
  -- the two lists of checks side by side
  sides : (u : Bool) (s : State) (n p : ℕ) → Burst.refused n p ≡ by_verdict (first (check 13 u ∷ [])) (begun s) Burst.refused
      → (u ≡ true) × (n ≡ 13) × (p ≡ 0)
  unfolding first
  sides true s n p e = (refl, cc, cc)
  sides false s n p e = absurd (let z : ◌≡◌ {A = ℕ} 0 1 = cc in omega arith)

  goes : (u : Bool) (s t : State) → begun t ≡ by_verdict (first (check 13 u ∷ [])) (begun s) Burst.refused → (u ≡ false) × (t ≡ s)
  unfolding first
  goes true s t e = absurd (let z : ◌≡◌ {A = ℕ} 0 1 = cc in omega arith)
  goes false s t e = (refl, cc)

  -- refused
  pub begin_place : (n p : ℕ) → Burst.refused n p ≡ begin_answer edition → p < 2 ^ 56
  unfolding begin_answer
  begin_place n p e = let z = sides (ltb 1 edition) (state_fresh edition) n p e in omega (arith, z.2)

  pub begin_refused : (n p : ℕ) → Burst.refused n p ≡ begin_answer edition → BeginsThroughC edition state (n + 256 * p) state
  unfolding begin_answer begin_verdict first
  begin_refused n p e =
      let z = sides (ltb 1 edition) (state_fresh edition) n p e in
      (rw z.0 (ap₂ (λ (a b : ℕ). a + 256 * b) z.1 z.2), rw z.0)

  -- with a state too short
  pub begin_short : (s : State) → begun s ≡ begin_answer edition → length state < 232 → BeginsThroughC edition state 4 state
  unfolding begin_answer begin_verdict first
  begin_short s e l =
      let z = goes (ltb 1 edition) (state_fresh edition) s e in
      (rw (z.0, lt-ltb (length state) 232 l), rw (z.0, lt-ltb (length state) 232 l))

  -- or long enough
  pub begin_done : (s : State) (state' : List ℕ) → begun s ≡ begin_answer edition → 232 ≤ length state → state' ≡ stored_in s state → BeginsThroughC edition state 0 state'
  unfolding begin_answer begin_verdict first
  begin_done s state' e l q =
      let z = goes (ltb 1 edition) (state_fresh edition) s e in
      (rw (z.0, le-ltb (length state) 232 l), rw (z.0, le-ltb (length state) 232 l) (q ∙ ap (λ (t : State). stored_in t state) z.1))

  -- with a result of 0
  pub begin_known : (state' : List ℕ) → BeginsThroughC edition state 0 state' → (edition ≤ 1) × (state' ≡ stored_in (state_fresh edition) state)
  unfolding begin_verdict
  begin_known state' q =
      let v : begin_verdict edition (length state) ≡ accepted = result_zero _ (lit< tt, (lit< tt, tt)) q.0 in
      (ltb-false 1 edition (passed _ _ v).0, q.1 ∙ ap (λ (x : Verdict). by_verdict x (stored_in (state_fresh edition) state) (λ number place. state)) v)

-- ---- a burst and the closing call

-- no place but 0
pub place_nought : (s : State) (line room n p : ℕ) → burst_verdict s line room ≡ refused n p → p ≡ 0
unfolding burst_verdict burst_checks
place_nought s line room n p q = place_zero _ (refl, (refl, (refl, (refl, (refl, tt))))) n p q

-- no burst is accepted into no room
room_asked : (s : State) (line : ℕ) → ltb 0 (room_for s line) ≡ true
room_asked s line = lt-ltb 0 (room_for s line) (omega arith)

never_there : (s : State) (line : ℕ) → burst_verdict s line 0 ≡ accepted → ⊥
unfolding burst_verdict burst_checks
never_there s line q = never (take 4 (burst_checks s line 0)) (check 4 (ltb 0 (room_for s line))) [] (room_asked s line) q

module _ (state : List ℕ) (line room summary counters : ℕ) where
  abbrev own : List Check
  own = burst_checks (state_in state) line room

  -- the state is too short
  pub short_state : length state < 232 → verdict state line room summary counters ≡ refused 4 0
  unfolding verdict first
  short_state l = rw (lt-ltb (length state) 232 l)

  module _ (long : 232 ≤ length state) where
    past : verdict state line room summary counters ≡ first (one_more_after 4 (check 4 (short_slice summary counters)) own)
    unfolding verdict
    past = skipped (check 4 (too_short 8 29 (length state))) (one_more_after 4 (check 4 (short_slice summary counters)) own) (le-ltb (length state) 232 long)

    -- the summary or the counters are
    pub short_slices : short_slice summary counters ≡ true → verdict state line room summary counters ≡ burst_verdict (state_in state) line 0
    unfolding burst_verdict burst_checks
    short_slices e =
        let s = state_in state in
        past
        ∙ cut_off (take 4 own) (check 4 (short_slice summary counters)) (drop 4 own) e
        ∙ ap (λ (b : Bool). first (take 4 own ++ check 4 b ∷ [])) (e ∙ sym (room_asked s line))

    -- none is
    pub long_slices : short_slice summary counters ≡ false → verdict state line room summary counters ≡ burst_verdict (state_in state) line room
    unfolding burst_verdict
    long_slices e = past ∙ first_after 4 (check 4 (short_slice summary counters)) own e

  -- an accepted call is lent slices that are long enough, and is accepted by its own checks
  long_enough : verdict state line room summary counters ≡ accepted → 232 ≤ length state
  unfolding verdict
  long_enough e = ltb-false (length state) 232 (passed _ _ e).0

  pub goes_on_lem : verdict state line room summary counters ≡ accepted → (short_slice summary counters ≡ false) × (burst_verdict (state_in state) line room ≡ accepted)
  goes_on_lem e = by (short_slice summary counters) refl
    where
      by : (b : Bool) → short_slice summary counters ≡ b → (short_slice summary counters ≡ false) × (burst_verdict (state_in state) line room ≡ accepted)
      by true h = absurd (never_there (state_in state) line (sym (short_slices (long_enough e) h) ∙ e))
      by false h = (h, sym (long_slices (long_enough e) h) ∙ e)

  -- no check has number 0
  numbered : Numbered (check 4 (too_short 8 29 (length state)) ∷ one_more_after 4 (check 4 (short_slice summary counters)) own)
  unfolding burst_checks
  numbered = (lit< tt, (lit< tt, (lit< tt, (lit< tt, (lit< tt, (lit< tt, (lit< tt, tt)))))))

  -- a refusal's result is above 0, and 0 is a success
  pub refused_above : (n p : ℕ) → verdict state line room summary counters ≡ refused n p → 0 < n
  unfolding verdict
  refused_above n p e = refusal_above _ numbered n p e

  pub success : 0 ≡ result_of (verdict state line room summary counters) → verdict state line room summary counters ≡ accepted
  unfolding verdict
  success e = result_zero _ numbered e
