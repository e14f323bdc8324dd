-- What calls add adds up: the counts of a state are those of the state before it, and what the call added. Assumes nothing.
use Prim.Native.Nat.{ℕ}
use mathlib.Core.Path.{◌≡◌, refl, sym, ap, ◌∙◌}
use mathlib.Core.List.{List, [], ◌∷◌}
use native.Mathlib.Nat.{add_assoc, add-zero}
use Rattle.bits.specs.Lists.{how_many}
use Rattle.receiving.specs.Receive.{counts_of}
use Rattle.receiving.specs.Parts.{no_counts, plus, plus_handed}
use Rattle.receiving.specs.declared.Counts.{Counts}
use Rattle.receiving.specs.declared.Handed.{Handed}
use Rattle.receiving.proofs.Counted.{count_end, count_first, hand_first}
use Rattle.kept_state.specs.declared.State.{State}
use Rattle.bursts.specs.declared.Added.{Added}
use Rattle.bursts.specs.Burst.{burst_added, burst_state, close_added, close_state}
use Rattle.bursts.specs.Joined.{plus_added, none_added, state_over, added_over}

-- the counts of a state
abbrev pub sums : State → Added
sums s = record { counts = s.counts; handed = s.handed }

-- ---- the laws of sums

counts_assoc : (a b c : Counts) → plus (plus a b) c ≡ plus a (plus b c)
counts_assoc a b c =
    λ i. record {
      tested = add_assoc a.tested b.tested c.tested i;
      slips = add_assoc a.slips b.slips c.slips i;
      headers = add_assoc a.headers b.headers c.headers i;
      types = add_assoc a.types b.types c.types i;
      codes = add_assoc a.codes b.codes c.codes i;
      sets = add_assoc a.sets b.sets c.sets i;
    }

handed_assoc : (a b c : Handed) → plus_handed (plus_handed a b) c ≡ plus_handed a (plus_handed b c)
handed_assoc a b c = λ i. record { begun = add_assoc a.begun b.begun c.begun i; replaced = add_assoc a.replaced b.replaced c.replaced i }

pub added_assoc : (a b c : Added) → plus_added (plus_added a b) c ≡ plus_added a (plus_added b c)
added_assoc a b c =
    λ i. record { counts = counts_assoc a.counts b.counts c.counts i; handed = handed_assoc a.handed b.handed c.handed i }

counts_none : (c : Counts) → plus c no_counts ≡ c
unfolding counts_of how_many
counts_none c = count_end c

pub added_none : (a : Added) → plus_added a none_added ≡ a
added_none a = λ i. record { counts = counts_none a.counts i; handed = record { begun = add-zero a.handed.begun i; replaced = add-zero a.handed.replaced i } }

-- from nothing on
pub added_first : (a : Added) → plus_added none_added a ≡ a
added_first a = λ i. record { counts = count_first a.counts i; handed = hand_first a.handed i }

-- ---- of the calls

pub burst_sums : (s : State) (line : List ℕ) → sums (burst_state s line) ≡ plus_added (sums s) (burst_added s line)
unfolding burst_state
burst_sums s line = refl

pub close_sums : (s : State) → sums (close_state s) ≡ plus_added (sums s) (close_added s)
unfolding close_state close_added
close_sums s = λ i. record { counts = sym (counts_none s.counts) i; handed = (close_state s).handed }

-- over bursts
pub over_sums : (s : State) (bursts : List (List ℕ)) → plus_added (sums s) (added_over s bursts) ≡ sums (state_over s bursts)
unfolding added_over state_over
over_sums s [] = added_none (sums s)
over_sums s (b ∷ bs) =
    sym (added_assoc (sums s) (burst_added s b) (added_over (burst_state s b) bs))
    ∙ ap (λ (a : Added). plus_added a (added_over (burst_state s b) bs)) (sym (burst_sums s b)) ∙ over_sums (burst_state s b) bs
