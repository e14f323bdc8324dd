-- The numbers of the state after an accepted call fit 64 bits. Assumes nothing.
use Prim.Native.Nat.{ℕ, ◌+◌, ◌^◌, ◌≤◌, ◌<◌}
use mathlib.Core.Path.{◌≡◌}
use mathlib.Core.List.{List}
use native.Mathlib.Omega.{arith}
use lib.Dec.{lit<}
use lib.ListN.{length, get_or}
use Rattle.bits.specs.Bits.{number, line_bits}
use Rattle.bits.proofs.Laws.{number_lt}
use Rattle.bits.proofs.Lists.{words_lt}
use Rattle.block.specs.Block.{edition_of, kind_in}
use Rattle.block.specs.declared.Edition.{Edition}
use Rattle.block.specs.declared.Kind.{Kind}
use Rattle.block.specs.declared.Kind.TheVariants.{D, C, S, T, E, LI}
use Rattle.diagrams.specs.Diagram.{state_number}
use Rattle.diagrams.specs.declared.State as Diagram
use Rattle.diagrams.specs.declared.State.TheVariants.{Init, Control, Data, Terminate, Error, LowPower}
use Rattle.refusals.specs.First.{accepted}
use Rattle.receiving.specs.Machine.{Tested}
use Rattle.receiving.specs.Receive.{counts_of, handed_of}
use Rattle.receiving.specs.Parts.{plus, plus_handed}
use Rattle.receiving.specs.Counted.{Within, HandedWithin}
use Rattle.receiving.specs.Ranges.{InRange}
use Rattle.receiving.specs.declared.Counts.{Counts}
use Rattle.receiving.specs.declared.Handed.{Handed}
use Rattle.receiving.proofs.Each.{EachTested, each_held, run_keeps}
use Rattle.receiving.proofs.Each as Each
use Rattle.receiving.proofs.Counted.{counts_few, handed_few, within_wide, handed_wide}
use Rattle.receiving.proofs.Ranges.{range_next}
use Rattle.kept_state.specs.declared.State.{State}
use Rattle.kept_state.specs.Meaning.{feed_meant, diagram_meant, held_kind_number, five_bytes, kept_for}
use Rattle.judging.specs.Judging.{burst_verdict}
use Rattle.bursts.specs.Burst.{state_fresh, run_from, settled_from, burst_added, burst_state, close_judged, close_added, close_state}
use Rattle.kept_state.proofs.Storing.{Storable}
use Rattle.bad_states.proofs.Limits.{within_limits}
use Rattle.bursts.proofs.Going.{passed, fine, few_settled, tested_few, close_passed, close_few}
use Rattle.bursts.proofs.Reached.{end_stands, blocks_stored}

-- the largest number of 64 bits
abbrev pub largest : ℕ
largest = 18446744073709551615

-- no number of a state is larger
pub record Small (s : State) : Type 0 where
  pub bytes : s.bytes < 2 ^ 64
  pub edition : s.edition < 2 ^ 64
  pub tested : s.lock.tested < 2 ^ 64
  pub invalid : s.lock.invalid < 2 ^ 64
  pub blocks : s.rate.blocks < 2 ^ 64
  pub misses : s.rate.invalid < 2 ^ 64
  pub history : s.history < 2 ^ 64
  pub count : s.carried.count < 2 ^ 64
  pub header : s.carried.header < 2 ^ 64
  pub payload : s.carried.payload < 2 ^ 64
  pub diagram : s.diagram < 2 ^ 64
  pub kind : s.held.kind < 2 ^ 64
  pub first : s.held.first < 2 ^ 64
  pub second : s.held.second < 2 ^ 64
  pub counts : Within largest s.counts
  pub vectors : s.vectors < 2 ^ 64
  pub handed : HandedWithin largest s.handed

-- ---- the numbers of a held block, and of the diagram's state

kind_lt : (k : Kind) → held_kind_number k < 6
kind_lt D = lit< tt
kind_lt C = lit< tt
kind_lt S = lit< tt
kind_lt T = lit< tt
kind_lt E = lit< tt
kind_lt LI = lit< tt

five_lt : (v : List ℕ) (p : ℕ) → ((n : ℕ) → get_or v n 0 < 256) → five_bytes v p < 2 ^ 64
five_lt v p o = omega (arith, o p, o (p + 1), o (p + 2), o (p + 3), o (p + 4))

kept_lt : (ed : Edition) {h : List Tested} → EachTested (Storable ed) h → ((kept_for h).kind < 6) × ((kept_for h).first < 2 ^ 64) × ((kept_for h).second < 2 ^ 64)
unfolding kept_for
kept_lt ed Each.none = (omega arith, omega arith, omega arith)
kept_lt ed (Each.more {t} w r) = (kind_lt (kind_in t.class), five_lt t.vector 0 w.octets, five_lt t.vector 5 w.octets)

state_lt : (d : Diagram.State) → state_number d < 6
state_lt Init = lit< tt
state_lt Control = lit< tt
state_lt Data = lit< tt
state_lt Terminate = lit< tt
state_lt Error = lit< tt
state_lt LowPower = lit< tt

-- ---- sums of counts

plus_within : (a b : Counts) (n m : ℕ) → Within n a → Within m b → Within (n + m) (plus a b)
plus_within a b n m p q =
    record {
      tested = omega (arith, p.tested, q.tested);
      slips = omega (arith, p.slips, q.slips);
      headers = omega (arith, p.headers, q.headers);
      types = omega (arith, p.types, q.types);
      codes = omega (arith, p.codes, q.codes);
      sets = omega (arith, p.sets, q.sets);
    }

handed_within : (a b : Handed) (n m : ℕ) → HandedWithin n a → HandedWithin m b → HandedWithin (n + m) (plus_handed a b)
handed_within a b n m p q = record { begun = omega (arith, p.begun, q.begun); replaced = omega (arith, p.replaced, q.replaced) }

-- ---- a burst

module _ (s : State) (line room : List ℕ) (v : burst_verdict s (length line) (length room) ≡ accepted) where
  -- the block that is then held
  next_kept : ((kept_for (settled_from s line).held).kind < 6) × ((kept_for (settled_from s line).held).first < 2 ^ 64) × ((kept_for (settled_from s line).held).second < 2 ^ 64)
  unfolding settled_from
  next_kept = kept_lt (edition_of s.edition) (each_held (diagram_meant s) (blocks_stored s line (fine s line room v).carried))

  -- the link
  next_link : InRange (run_from s line).end.link
  unfolding run_from feed_meant
  next_link = run_keeps InRange (λ t. Unit) range_next (λ l h p o. tt) (feed_meant s) (line_bits line) (fine s line room v).range

  -- the counts
  next_counts : Within largest (plus s.counts (counts_of (run_from s line).tested))
  next_counts =
      within_wide _ 1100000 largest
      (plus_within s.counts (counts_of (run_from s line).tested) 100000 1000000 (fine s line room v).counts (counts_few (run_from s line).tested 1000000 (omega (arith, tested_few s line room v))))
      (omega arith)

  next_settled : length (settled_from s line).judged ≤ 1000000
  next_settled = omega (arith, few_settled s line room v, tested_few s line room v)

  next_handed : HandedWithin largest (plus_handed s.handed (handed_of (settled_from s line).judged))
  next_handed =
      handed_wide _ 1100000 largest
      (handed_within s.handed (handed_of (settled_from s line).judged) 100000 1000000 (fine s line room v).handed (handed_few (settled_from s line).judged 1000000 next_settled))
      (omega arith)

  pub small_next : Small (burst_state s line)
  unfolding burst_state burst_added
  small_next =
      let f = fine s line room v in
      let p = passed s line room v in
      let b = end_stands s line f.carried in
      let e = (run_from s line).end.bits in
      let k = next_kept in
      let l = next_link in
      let hd : number 2 (λ i. get_or e i 0) < 2 ^ 2 = number_lt 2 (λ i. get_or e i 0) (λ i m. words_lt 1 b.bits i) in
      let pl : number 64 (λ i. get_or e (2 + i) 0) < 2 ^ 64 = number_lt 64 (λ i. get_or e (2 + i) 0) (λ i m. words_lt 1 b.bits (2 + i)) in
      record {
        bytes = omega (arith, p.sum);
        edition = omega (arith, p.known);
        tested = omega (arith, l.tested);
        invalid = omega (arith, l.invalid);
        blocks = omega (arith, l.blocks);
        misses = omega (arith, l.misses, l.blocks);
        history = omega (arith, l.history);
        count = omega (arith, b.few);
        header = omega arith;
        payload = pl;
        diagram = omega (arith, state_lt (settled_from s line).state);
        kind = omega (arith, k.0);
        first = k.1;
        second = k.2;
        counts = next_counts;
        vectors = omega (arith, f.vectors, next_settled);
        handed = next_handed;
      }

-- ---- the closing call: what it leaves as it was is small before it

pub small_close : (s : State) (room : List ℕ) → burst_verdict s 0 (length room) ≡ accepted → Small s → Small (close_state s)
unfolding close_state close_added kept_for
small_close s room v w =
    let f = within_limits s (close_passed s room v).good in
    record {
      bytes = w.bytes;
      edition = w.edition;
      tested = w.tested;
      invalid = w.invalid;
      blocks = w.blocks;
      misses = w.misses;
      history = w.history;
      count = w.count;
      header = w.header;
      payload = w.payload;
      diagram = w.diagram;
      kind = omega arith;
      first = omega arith;
      second = omega arith;
      counts = w.counts;
      vectors = omega (arith, f.vectors, close_few s room v);
      handed =
          handed_wide _ 100001 largest
          (handed_within s.handed (handed_of (close_judged s)) 100000 1 f.handed (handed_few (close_judged s) 1 (close_few s room v)))
          (omega arith);
    }

-- ---- a fresh state

pub small_fresh : (edition : ℕ) → edition ≤ 1 → Small (state_fresh edition)
unfolding kept_for number
small_fresh edition k =
    record {
      bytes = omega arith;
      edition = omega arith;
      tested = omega arith;
      invalid = omega arith;
      blocks = omega arith;
      misses = omega arith;
      history = omega arith;
      count = omega arith;
      header = omega arith;
      payload = omega arith;
      diagram = omega arith;
      kind = omega arith;
      first = omega arith;
      second = omega arith;
      counts = record { tested = omega arith; slips = omega arith; headers = omega arith; types = omega arith; codes = omega arith; sets = omega arith };
      vectors = omega arith;
      handed = record { begun = omega arith; replaced = omega arith };
    }
