-- `holzmotte::holzmotte_send` meets its contract: a summary too short, an answer, a refusal. Assumes nothing.
use mathlib.Core.Path.{sym, ap, ◌∙◌}
use lib.ListN.{length}
use Rattle.sending.specs.Answer.{answer_of}
use Rattle.holzmotte.proofs.Sends.{small, shortly, answered}
use Rattle.holzmotte.proofs.holzmotte_send.Goals as goal

pub returns-then-summary-lt24 : goal.returns-then-summary-lt24
returns-then-summary-lt24 c =
    let a = c.args in
    let s = a.summary.now in
    shortly a.edition a.vectors.now a.line.now s a.start c.send_short.result c.if-summary-lt24.true (c.send_short.ensures (length a.line.now) (length s) c.if-summary-lt24.true)

pub refusal-requires : goal.refusal-requires
refusal-requires c =
    let a = c.args in
    small a.edition a.vectors.now a.start (length a.line.now) _ _ (sym (ap answer_of c.in-Err.is) ∙ c.send.ensures.0)

pub returns-in-Ok : goal.returns-in-Ok
returns-in-Ok c =
    let args = c.args in
    let if1 = c.if-summary-lt24 in
    let send = c.send in
    let s = c.in-Ok in
    let a = args in
    answered a.edition a.vectors.now a.line.now a.summary.now _ _ a.start _ if1.false (sym (ap answer_of s.is) ∙ send.ensures.0) send.ensures.1 c.put_words.ensures

pub returns-in-Err : goal.returns-in-Err
returns-in-Err c =
    let args = c.args in
    let if1 = c.if-summary-lt24 in
    let send = c.send in
    let why = c.in-Err in
    let put-words2 = c.put_words-in-Err in
    let a = args in
    let t = answered a.edition a.vectors.now a.line.now a.summary.now _ _ a.start _ if1.false (sym (ap answer_of why.is) ∙ send.ensures.0) send.ensures.1 put-words2.ensures in
    (c.refusal.ensures ∙ t.0, t.1, t.2)
