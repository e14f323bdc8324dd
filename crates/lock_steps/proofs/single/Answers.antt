use native.Mathlib.Omega.{arith}
use mathlib.Core.Path.{sym, ap, ◌∙◌, subst}
use Prim.Native.Nat.{ℕ, ◌+◌, ◌*◌, ◌<◌}
use Rattle.bits.proofs.Laws.{number_lt}
use Rattle.bits.proofs.Lists.{line_bit_lt}
use Rattle.bits.specs.Bits.{line_bit}
use Rattle.block.specs.Block.{class_of, decoded}
use Rattle.diagrams.specs.Diagram.{follows}
use Rattle.lock_steps.specs.InLock.{ran_of}
use Rattle.receiving.proofs.Stretching.{stretch_first, stretch_turn}
use Rattle.lock_steps.proofs.InLock.{good_valid}
use Rattle.lock_steps.proofs.single.Goals as goal

pub general_step-requires : goal.general_step-requires
general_step-requires c =
    let args = c.args in
    let pre = c.requires in
    let descramble = c.descramble-plain in
    let line = args.line.now in
    let pos : ℕ = args.p.pos + 66 * args.s.count in
    let ed = args.p.receiver.link.edition in
    let told = c.in-Some.ensures in
    let small : args.b.header < 4 = subst (λ (n : ℕ). n < 4) (sym pre.2) (number_lt 2 (λ i. line_bit line (pos + i)) (λ i q. line_bit_lt line (pos + i))) in (
      pre.0,
      record {
        under = pre.1.under;
        lock = pre.1.lock;
        here = pre.1.here;
        header = pre.2;
        payload = pre.3;
        valid = good_valid ed args.b.header descramble.result.word c.in-Some.q.class small told.0 told.2;
        more = pre.1.more;
      },
      record {
        class = told.0 ∙ ap (class_of ed args.b.header) descramble.ensures.0;
        vector = told.1 ∙ ap (decoded ed args.b.header) descramble.ensures.0;
        good = told.2;
      },
      c.may_follow-ends.ensures ∙ ap follows c.kind_in.ensures,
      descramble.ensures.1,
    )

pub returns-in-Some : goal.returns-in-Some
returns-in-Some c =
    let args = c.args in
    let pre = c.requires in
    let general-step = c.general_step in
    let s = general-step.ensures.0 in (
      stretch_turn args.line.now args.room.now general-step.new.room (ran_of args.p args.s) (ran_of args.p general-step.result) s.turns (omega (arith, s.pos, pre.1.here)),
      s.lock,
      λ l. general-step.ensures.1,
    )

pub returns-in-None : goal.returns-in-None
returns-in-None c =
    let args = c.args in
    let pre = c.requires in (
      stretch_first args.line.now args.room.now (ran_of args.p args.s) pre.1.under (omega (arith, pre.1.here)),
      pre.1.lock,
      λ l. absurd (omega (arith, l)),
    )
