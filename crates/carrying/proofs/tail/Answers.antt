-- `carrying::tail` meets its contract. Assumes nothing.
use mathlib.Core.Path.{sym, ap, ◌∙◌, subst}
use native.Mathlib.Omega.{arith}
use Prim.Native.Nat.{ℕ, ◌+◌, ◌*◌}
use Rattle.carrying.proofs.Reading.{TailSofar, first, fits, turn, done}
use Rattle.carrying.proofs.tail.Goals as goal

pub loop-byte-init : goal.loop-byte-init
loop-byte-init c =
    first c.args.line.now c.args.at _
    (ap (λ x. x.iter.rest.now) c.into_iter-byte-iterator.ensures.into_iter_gives ∙ ap (λ x. x.rest.now) c.rev-byte-items.ensures.source ∙ c.iter.ensures.rest)
    c.requires.0

pub overflow_mul-word : goal.overflow_mul-word
overflow_mul-word c = record { fits = omega (arith, fits c.args.line.now c.args.at _ _ c.loop-byte.word _ c.requires.1 c.loop-byte.invariant c.in-Some.ensures.steps (λ i. (c.type_inv.line i).fits)) }

pub overflow_add-word : goal.overflow_add-word
overflow_add-word c = record { fits = omega (arith, fits c.args.line.now c.args.at _ _ c.loop-byte.word _ c.requires.1 c.loop-byte.invariant c.in-Some.ensures.steps (λ i. (c.type_inv.line i).fits)) }

pub loop-byte-preserved : goal.loop-byte-preserved
loop-byte-preserved c =
    subst (λ (x : ℕ). TailSofar c.args.line.now c.args.at c.next.new.self.iter.rest.now (c.loop-byte.word * 256 + x)) (sym c.from.ensures)
    (turn c.args.line.now c.args.at _ _ c.loop-byte.word _ c.requires.1 c.loop-byte.invariant c.in-Some.ensures.steps (λ i. (c.type_inv.line i).fits))

pub returns : goal.returns
returns c = done c.args.line.now c.args.at _ _ c.in-None.ensures.steps.0 c.loop-byte.invariant
