use mathlib.Core.Path.{refl, ap, ◌∙◌}
use Rattle.block.specs.declared.Kind.{Kind}
use Rattle.block.specs.Block.{kind_in}
use Rattle.diagrams.specs.Diagram.{diagram_of}
use Rattle.lock_steps.specs.InLock.{ran_of}
use Rattle.lock_steps.proofs.InLock.{one_fits, run_general}
use Rattle.lock_steps.proofs.general_step.Goals as goal

pub put_vector-requires : goal.put_vector-requires
put_vector-requires c =
    let args = c.args in
    let pre = c.requires in
    one_fits args.line.now args.room.now (ran_of args.p args.s) args.b.header args.b.payload pre.1 args.next.class args.next.vector
    pre.2

pub returns : goal.returns
returns c =
    let args = c.args in
    let pre = c.requires in
    let kind_in_lem = c.kind_in in
    let diagram-step = c.diagram_step-state in
    let hand-out = c.hand_out-out in (
      run_general args.line.now args.room.now args.p args.s args.b.header args.b.payload pre.1 args.next.class args.next.vector pre.2
          args.history pre.4 c.put_vector.new.room diagram-step.result hand-out.result.vector hand-out.result.handed
          (diagram-step.ensures ∙ ap (λ (k : Kind). diagram_of args.s.state k args.ends) kind_in_lem.ensures ∙ ap (diagram_of args.s.state (kind_in args.s.class)) pre.3)
          hand-out.ensures.0 hand-out.ensures.1 c.put_vector.ensures,
      refl,
    )
