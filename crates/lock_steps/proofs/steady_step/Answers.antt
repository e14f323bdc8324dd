use mathlib.Core.Path.{refl}
use Rattle.lock_steps.specs.InLock.{ran_of}
use Rattle.lock_steps.proofs.InLock.{one_fits, run_steady}
use Rattle.lock_steps.proofs.steady_step.Goals as goal

pub put_vector-requires : goal.put_vector-requires
put_vector-requires c =
    let args = c.args in
    let pre = c.requires in
    one_fits args.line.now args.room.now (ran_of args.p args.s) args.b.header args.b.payload pre.1 args.held.class args.held.vector pre.2

pub returns : goal.returns
returns c =
    let args = c.args in
    let pre = c.requires in
    let put_vector = c.put_vector in (
      run_steady args.line.now args.room.now args.p args.s args.b.header args.b.payload pre.1 args.held.class args.held.vector pre.2
          args.history pre.6 put_vector.new.room args.state c.count_vector.result pre.3 pre.4 pre.5 c.count_vector.ensures
          put_vector.ensures,
      refl,
      refl,
      refl,
    )
