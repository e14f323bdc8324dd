-- `holzmotte_frames::holzmotte_frames` meets its contract: a summary too short, an answer, a refusal. Assumes nothing.
use mathlib.Core.Path.{sym, ap, ◌∙◌}
use lib.ListN.{length}
use Rattle.frame_list.specs.Answer.{answer_of}
use Rattle.holzmotte_frames.proofs.Lists.{small, shortly, answered}
use Rattle.holzmotte_frames.proofs.holzmotte_frames.Goals as goal

pub returns-then-summary-lt8 : goal.returns-then-summary-lt8
returns-then-summary-lt8 c =
    let args = c.args in
    let if1 = c.if-summary-lt8 in
    shortly args.vectors.now args.list.now args.summary.now c.frames_short.result if1.true
    (c.frames_short.ensures (length args.list.now) (length args.summary.now) if1.true)

pub refusal-requires : goal.refusal-requires
refusal-requires c =
    let args = c.args in
    small args.vectors.now (length args.list.now) _ _ (sym (ap answer_of c.in-Err.is)
    ∙ c.list.ensures.0)

pub returns-in-Ok : goal.returns-in-Ok
returns-in-Ok c =
    let args = c.args in
    let list = c.list in
    answered args.vectors.now args.list.now args.summary.now _ _ _ c.if-summary-lt8.false (sym (ap answer_of c.in-Ok.is)
    ∙ list.ensures.0) list.ensures.1
    c.put_words.ensures

pub returns-in-Err : goal.returns-in-Err
returns-in-Err c =
    let args = c.args in
    let list = c.list in
    let t = answered args.vectors.now args.list.now args.summary.now _ _ _ c.if-summary-lt8.false (sym (ap answer_of c.in-Err.is)
    ∙ list.ensures.0) list.ensures.1 c.put_words-in-Err.ensures in
    (c.refusal.ensures ∙ t.0, t.1, t.2)
