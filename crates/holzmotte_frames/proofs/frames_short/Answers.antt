-- `holzmotte_frames::frames_short` meets its contract: what listing into no room is refused for, or else 4. Assumes nothing.
use Rattle.std.proofs.Common.{◌+◌, ◌*◌, Bool, cond, sym, ap, ◌∙◌}
use Rattle.refusals.specs.Number.{number_of}
use Rattle.frame_list.specs.Answer.{answer_of}
use Rattle.holzmotte_frames.proofs.Lists.{short_answer, small, by_kind}
use Rattle.holzmotte_frames.proofs.frames_short.Goals as goal

pub returns-in-Ok : goal.returns-in-Ok
returns-in-Ok c list summary l = short_answer c.args.vectors.now list summary _ (sym (ap answer_of c.in-Ok.is) ∙ c.list.ensures.0) l

pub returns-then-eq : goal.returns-then-eq
returns-then-eq c list summary l =
    let r = c.in-Err.refused in
    sym (ap (λ (b : Bool). cond b 4 (number_of r.0 + 256 * r.1)) (sym c.eq.ensures ∙ c.if-eq.true))
    ∙ sym (by_kind r.0 r.1) ∙ short_answer c.args.vectors.now list summary _ (sym (ap answer_of c.in-Err.is) ∙ c.list.ensures.0) l

pub refusal-requires : goal.refusal-requires
refusal-requires c = small c.args.vectors.now 0 _ _ (sym (ap answer_of c.in-Err.is) ∙ c.list.ensures.0)

pub returns-else-eq : goal.returns-else-eq
returns-else-eq c list summary l =
    let r = c.in-Err.refused in
    c.refusal.ensures
    ∙ sym (ap (λ (b : Bool). cond b 4 (number_of r.0 + 256 * r.1)) (sym c.eq.ensures ∙ c.if-eq.false))
    ∙ sym (by_kind r.0 r.1) ∙ short_answer c.args.vectors.now list summary _ (sym (ap answer_of c.in-Err.is) ∙ c.list.ensures.0) l
