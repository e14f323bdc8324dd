-- What refusal 10 is given for, and what a state that passes has. Assumes nothing.
use Prim.Native.Nat.{◌^◌, ◌≤◌}
use mathlib.Core.Path.{◌≡◌, refl, ap}
use mathlib.Core.Bool.{Bool, true, false, not, ◌&&◌, ◌||◌, true≢false}
use mathlib.Core.List.{List, [], ◌∷◌}
use native.Mathlib.Omega.{arith}
use lib.Dec.{ltb}
use lib.ListN.{length}
use borrow.Author.Tests.{ltb-false, leb-false, le-ltb, lt-leb}
use Rattle.block.specs.Block.{edition_of}
use Rattle.lock.specs.declared.Rate.{Rate}
use Rattle.kept_state.specs.declared.State.{State}
use Rattle.kept_state.specs.Meaning.{states, link_meant}
use Rattle.kept_state.specs.Coded.{WithinLimits}
use Rattle.bad_states.specs.BadStates.{any, over_counts, over_summary, at_odds, out_of_range, bad_state}
use Rattle.bad_states.proofs.Orderly.{Orderly}

-- none of a list is none of its parts
abbrev AllFalse : List Bool → Type 0
AllFalse [] = Unit
AllFalse (b ∷ bs) = (b ≡ false) × AllFalse bs

-- neither of two
neither : (a b : Bool) → a || b ≡ false → (a ≡ false) × (b ≡ false)
neither true b e = absurd (true≢false e)
neither false b e = (refl, e)

any_none : (bs : List Bool) → any bs ≡ false → AllFalse bs
any_none [] e = tt
any_none (b ∷ bs) e =
    let p = neither b (any bs) e in
    (p.0, any_none bs p.1)

-- a state that passes
pub within_limits : (s : State) → bad_state s ≡ false → WithinLimits s
unfolding bad_state
within_limits s e =
    let p = neither (any (over_counts s)) (any (over_summary s) || (any (at_odds s) || any (out_of_range s))) e in
    let q = neither (any (over_summary s)) (any (at_odds s) || any (out_of_range s)) p.1 in
    let r = neither (any (at_odds s)) (any (out_of_range s)) q.1 in
    let a = any_none (over_counts s) p.0 in
    let m = any_none (over_summary s) q.0 in
    let b = any_none (at_odds s) r.0 in
    let c = any_none (out_of_range s) r.1 in
    record {
      range =
          record {
            tested = omega (arith, ltb-false 63 s.lock.tested a.0);
            invalid = omega (arith, ltb-false 15 s.lock.invalid a.1.0);
            blocks = omega (arith, ltb-false 19530 s.rate.blocks a.1.1.0);
            misses = ltb-false s.rate.blocks s.rate.invalid b.1.0;
            history = leb-false (2 ^ 58) s.history c.0;
          };
      bytes = ltb-false 825000 s.bytes a.1.1.1.1.0;
      counts =
          record {
            tested = ltb-false 100000 s.counts.tested m.0;
            slips = ltb-false 100000 s.counts.slips m.1.0;
            headers = ltb-false 100000 s.counts.headers m.1.1.1.0;
            types = ltb-false 100000 s.counts.types m.1.1.1.1.0;
            codes = ltb-false 100000 s.counts.codes m.1.1.1.1.1.0;
            sets = ltb-false 100000 s.counts.sets m.1.1.1.1.1.1.0;
          };
      vectors = ltb-false 100000 s.vectors m.1.1.0;
      handed =
          record {
            begun = ltb-false 100000 s.handed.begun m.1.1.1.1.1.1.1.0;
            replaced = ltb-false 100000 s.handed.replaced m.1.1.1.1.1.1.1.1.0;
          };
      carried = omega (arith, ltb-false 65 s.carried.count c.1.0);
      diagram = leb-false (length (states (edition_of s.edition))) s.diagram c.1.1.0;
    }

-- and a state passes whose numbers are those that a line leads to
module _ (s : State) (o : Orderly (link_meant s)) (f : WithinLimits s) where
  counts_pass : any (over_counts s) ≡ false
  counts_pass =
      let g = o.range in
      let i : s.rate.invalid ≤ 19530 = omega (arith, g.blocks, g.misses) in
      rw (le-ltb 63 s.lock.tested (omega (arith, g.tested)), le-ltb 15 s.lock.invalid (omega (arith, g.invalid)), le-ltb 19530 s.rate.blocks (omega (arith, g.blocks)), le-ltb 19530 s.rate.invalid i, le-ltb 825000 s.bytes f.bytes)

  summary_pass : any (over_summary s) ≡ false
  summary_pass =
      let c = f.counts in
      let h = f.handed in
      rw (
        le-ltb 100000 s.counts.tested c.tested,
        le-ltb 100000 s.counts.slips c.slips,
        le-ltb 100000 s.vectors f.vectors,
        le-ltb 100000
            s.counts.headers c.headers,
        le-ltb 100000 s.counts.types c.types,
        le-ltb 100000 s.counts.codes c.codes,
        le-ltb 100000
            s.counts.sets c.sets,
        le-ltb 100000 s.handed.begun h.begun,
        le-ltb 100000 s.handed.replaced h.replaced,
      )

  odds_pass : any (at_odds s) ≡ false
  odds_pass =
      rw (le-ltb s.lock.tested s.lock.invalid o.invalid, le-ltb s.rate.blocks s.rate.invalid o.range.misses)
      (go s.lock.locked refl)
    where
      go : (b : Bool) → s.lock.locked ≡ b → not b && (ltb 0 s.lock.invalid || (ltb 0 s.rate.invalid || (s.rate.high || false))) || false ≡ false
      go true e = refl
      go false e =
          let l = o.lost e in
          rw (ap (λ (r : Rate). r.high) l.1, le-ltb 0 s.lock.invalid (omega (arith, l.0)), le-ltb 0 s.rate.invalid (omega (arith, ap (λ (r : Rate). r.invalid) l.1)))

  range_pass : any (out_of_range s) ≡ false
  range_pass = rw (lt-leb (2 ^ 58) s.history o.range.history, le-ltb 65 s.carried.count (omega (arith, f.carried)), lt-leb (length (states (edition_of s.edition))) s.diagram f.diagram)

  pub passes_ten : bad_state s ≡ false
  unfolding bad_state
  passes_ten = rw (counts_pass, summary_pass, odds_pass, range_pass)
