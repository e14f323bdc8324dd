-- `holzmotte::holzmotte_receive` meets its contract: a slice too short, an answer, a refusal. Assumes nothing.
use mathlib.Core.Path.{sym, ◌∙◌}
use lib.ListN.{length}
use Rattle.receiving.specs.Answer.{receive_answer}
use Rattle.holzmotte.proofs.Receives.{as_found, small, shortly, long_summary, long_counters, refused_so, received_so}
use Rattle.holzmotte.proofs.holzmotte_receive.Goals as goal

pub returns-then-short_slice : goal.returns-then-short_slice
returns-then-short_slice c =
    let a = c.args in
    let l = sym c.short_slice.ensures ∙ c.if-short_slice.true in
    let t =
    shortly a.edition a.line.now a.vectors.now a.summary.now a.counters.now c.receive_short.result l
    (c.receive_short.ensures (length a.vectors.now) (length a.summary.now) (length a.counters.now) l) in
    (t.0, t.1, c.clear.ensures ∙ t.2, t.3)

pub load_counters-requires : goal.load_counters-requires
load_counters-requires c =
    let a = c.args in
    long_counters a.edition a.line.now a.vectors.now a.summary.now a.counters.now (sym c.short_slice.ensures ∙ c.if-short_slice.false)

pub put_summary-requires : goal.put_summary-requires
put_summary-requires c =
    let args = c.args in
    let short-slice = c.short_slice in
    let if1 = c.if-short_slice in
    let a = args in
    long_summary a.edition a.line.now a.vectors.now a.summary.now a.counters.now (sym short-slice.ensures ∙ if1.false)

pub store_counters-requires : goal.store_counters-requires
store_counters-requires c =
    let args = c.args in
    let short-slice = c.short_slice in
    let if1 = c.if-short_slice in
    let a = args in
    long_counters a.edition a.line.now a.vectors.now a.summary.now a.counters.now (sym short-slice.ensures ∙ if1.false)

pub refusal-requires : goal.refusal-requires
refusal-requires c =
    let args = c.args in
    let receive-by-value = c.receive_by_value-r in
    let answer2 = c.in-Err in
    let a = args in
    small a.edition a.line.now (length a.vectors.now) _ _ (as_found (receive_answer a.edition a.line.now (length a.vectors.now)) answer2.is receive-by-value.ensures.0.0)

pub returns-in-Ok : goal.returns-in-Ok
returns-in-Ok c =
    let args = c.args in
    let short-slice = c.short_slice in
    let if1 = c.if-short_slice in
    let load-counters = c.load_counters in
    let receive-by-value = c.receive_by_value-r in
    let answer = c.in-Ok in
    let put-summary = c.put_summary in
    let a = args in
    received_so a.edition a.line.now a.vectors.now a.summary.now a.counters.now (sym short-slice.ensures ∙ if1.false) answer.s load-counters.result receive-by-value.result.counters _ _ _
    (as_found (receive_answer a.edition a.line.now (length a.vectors.now)) answer.is receive-by-value.ensures.0.0) receive-by-value.ensures.0.1 put-summary.ensures
    load-counters.ensures receive-by-value.ensures.1 c.store_counters.ensures

pub returns-in-Err : goal.returns-in-Err
returns-in-Err c =
    let args = c.args in
    let short-slice = c.short_slice in
    let if1 = c.if-short_slice in
    let receive-by-value = c.receive_by_value-r in
    let answer2 = c.in-Err in
    let clear2 = c.clear-in-Err in
    let a = args in
    let t =
    refused_so a.edition a.line.now a.vectors.now a.summary.now a.counters.now (sym short-slice.ensures ∙ if1.false) _ _ _
    (as_found (receive_answer a.edition a.line.now (length a.vectors.now)) answer2.is receive-by-value.ensures.0.0) receive-by-value.ensures.0.1 in
    (c.refusal.ensures ∙ t.0, t.1, clear2.ensures ∙ t.2, t.3)
