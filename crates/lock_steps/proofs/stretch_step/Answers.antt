use mathlib.Core.Path.{refl, sym, ap, ap₂, ◌∙◌, subst}
use Prim.Native.Nat.{ℕ}
use Rattle.block.specs.Block.{decoded, class_of}
use Rattle.scrambler.specs.Scrambler.{descrambled}
use Rattle.decoding.proofs.Rows.{data_answer}
use Rattle.lock_steps.specs.InLock.{GoesTo, stretch_state}
use Rattle.lock_steps.proofs.InLock.{idle_answer, stays_data, stays_idle, not_data}
use Rattle.lock_steps.proofs.stretch_step.Goals as goal

-- a data block
pub steady_step-requires : goal.steady_step-requires
steady_step-requires g c =
    let args = c.args in
    let pre = c.requires in
    let plain = c.descramble-plain in
    let ed = args.p.receiver.link.edition in
    let two = c.if-this-eq2.true in (
      pre.0,
      pre.1,
      record {
        class = (data_answer ed g.row.HEADER (descrambled args.payload args.s.history) two).0;
        vector = c.octets.ensures ed ∙ ap₂ (decoded ed) (sym two) plain.ensures.0;
        good = refl;
      },
      subst (λ (h : ℕ). GoesTo (stretch_state h) args.s.state args.s.class) two pre.2,
      refl,
      refl,
      plain.ensures.1,
    )

-- eight idles
pub steady_step-requires-else-this-eq2 : goal.steady_step-requires-else-this-eq2
steady_step-requires-else-this-eq2 g c =
    let args = c.args in
    let pre = c.requires in
    let ed = args.p.receiver.link.edition in
    let one = not_data pre.3 c.if-this-eq2.false in (
      pre.0,
      pre.1,
      record {
        class = (idle_answer ed _ one.1).0 ∙ ap (λ (h : ℕ). class_of ed h (descrambled args.payload args.s.history)) (sym one.0);
        vector = c.idle.ensures ed ∙ ap₂ (decoded ed) (sym one.0) (sym one.1);
        good = refl;
      },
      subst (λ (h : ℕ). GoesTo (stretch_state h) args.s.state args.s.class) one.0 pre.2,
      refl,
      refl,
      c.descramble-plain.ensures.1,
    )

pub returns-then-this-eq2 : goal.returns-then-this-eq2
returns-then-this-eq2 g c =
    let step = c.steady_step in
    (step.ensures.0, stays_data g.row.HEADER step.result.state step.result.class c.if-this-eq2.true step.ensures.1 step.ensures.2, step.ensures.3)

pub returns-else-this-eq2 : goal.returns-else-this-eq2
returns-else-this-eq2 g c =
    let step = c.steady_step-else-this-eq2 in
    let one = not_data c.requires.3 c.if-this-eq2.false in
    (step.ensures.0, stays_idle g.row.HEADER step.result.state step.result.class one.0 step.ensures.1 step.ensures.2, step.ensures.3)
