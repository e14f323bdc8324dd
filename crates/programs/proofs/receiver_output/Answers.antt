-- `programs::receiver_output` meets its contract. Assumes nothing.
use mathlib.Core.Path.{ap, ◌∙◌}
use native.Mathlib.Omega.{arith}
use Rattle.std.specs.Prelude.{Ok}
use Rattle.programs.proofs.Outcomes.{was_done, was_more, was_stopped}
use Rattle.programs.proofs.Received.{receiver_program}
use Rattle.programs.proofs.receiver_output.Goals as goal

pub returns-in-Done : goal.returns-in-Done
returns-in-Done c =
    let p = was_done receiver_program c.args.step c.args.line.now _ _ _ (omega arith) _ _ (omega arith) (c.in-Ok.is ∙ ap Ok c.in-Done.is) c.body.ensures c.receive_output.ensures in
    record { puts_text = p.0; prefix_len = p.1 }

pub returns-in-More : goal.returns-in-More
returns-in-More c =
    let p = was_more receiver_program c.args.step c.args.line.now _ _ _ (omega arith) _ (c.in-Ok.is ∙ ap Ok c.in-More.is) c.input_failed_line.ensures in
    record { puts_text = p.0; prefix_len = p.1 }

pub returns-in-Err : goal.returns-in-Err
returns-in-Err c =
    let p = was_stopped receiver_program c.args.step c.args.line.now _ _ _ (omega arith) c.in-Err.stop c.in-Err.is c.stopped.ensures in
    record { puts_text = p.0; prefix_len = p.1 }
