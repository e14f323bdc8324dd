-- `holzmotte_bursts::answered` meets its contract. By the answer. Assumes nothing.
use mathlib.Core.Path.{refl}
use lib.ListN.{length}
use Rattle.holzmotte_bursts.proofs.Slices.{found_left, found_fits, put_is, added_to}
use Rattle.holzmotte_bursts.proofs.answered.Goals as goal

pub put_summary-requires : goal.put_summary-requires
put_summary-requires c =
    let args = c.args in
    let pre = c.requires in
    let answer = c.in-Ok in
    (found_fits _ _ (length args.summary.now) (length args.counters.now) answer.is pre.1).0

pub load_counters-before-requires : goal.load_counters-before-requires
load_counters-before-requires c =
    let args = c.args in
    let pre = c.requires in
    let answer = c.in-Ok in
    (found_fits _ _ (length args.summary.now) (length args.counters.now) answer.is pre.1).1

pub store_counters-requires : goal.store_counters-requires
store_counters-requires c =
    let args = c.args in
    let pre = c.requires in
    let answer = c.in-Ok in
    (found_fits _ _ (length args.summary.now) (length args.counters.now) answer.is pre.1).1

pub refusal-requires : goal.refusal-requires
refusal-requires c =
    let args = c.args in
    let pre = c.requires in
    let answer2 = c.in-Err in
    found_fits _ _ (length args.summary.now) (length args.counters.now) answer2.is pre.1

pub returns-in-Ok : goal.returns-in-Ok
returns-in-Ok c =
    let args = c.args in
    let pre = c.requires in
    let answer = c.in-Ok in
    let store-state = c.store_state in
    let put-summary = c.put_summary in
    let load-counters = c.load_counters-before in
    let add-counts = c.add_counts in
    let store-counters = c.store_counters in
    found_left args.r.state args.r.added args.state.now args.summary.now args.counters.now 0 _ _ _ _ _ answer.is (
      refl,
      store-state.ensures,
      put_is answer.s args.summary.now _
          (found_fits _ _ (length args.summary.now) (length args.counters.now) answer.is pre.1).0 put-summary.ensures,
      added_to
          args.counters.now _ load-counters.result add-counts.result args.r.added.counts args.r.added.handed load-counters.ensures
          add-counts.ensures store-counters.ensures,
    )

pub returns-in-Err : goal.returns-in-Err
returns-in-Err c =
    let args = c.args in
    let answer2 = c.in-Err in
    let clear = c.clear in
    found_left args.r.state args.r.added args.state.now args.summary.now args.counters.now c.refusal.result _ _ _ _ _
    answer2.is (c.refusal.ensures, refl, clear.ensures, refl)
