-- `programs::sender_output` meets its contract. Assumes nothing.
use lib.ListN.{length}
use mathlib.Core.Path.{ap, ◌∙◌}
use native.Mathlib.Omega.{arith}
use Rattle.std.specs.Prelude.{Ok}
use Rattle.programs.proofs.Outcomes.{body_short, was_done, was_more, was_stopped}
use Rattle.programs.proofs.Sent.{sender_program}
use Rattle.programs.proofs.sender_output.Goals as goal

pub send_output-requires : goal.send_output-requires
send_output-requires c = (omega (arith, ap length c.body.ensures, body_short c.args.vectors.now c.in-Done.n), omega arith)

pub returns-in-Done : goal.returns-in-Done
returns-in-Done c =
    let p = was_done sender_program c.args.step c.args.vectors.now _ _ _ (omega arith) _ _ (omega arith) (c.in-Ok.is ∙ ap Ok c.in-Done.is) c.body.ensures c.send_output.ensures in
    record { puts_text = p.0; prefix_len = p.1 }

pub returns-in-More : goal.returns-in-More
returns-in-More c =
    let p = was_more sender_program c.args.step c.args.vectors.now _ _ _ (omega arith) _ (c.in-Ok.is ∙ ap Ok c.in-More.is) c.input_failed_line.ensures in
    record { puts_text = p.0; prefix_len = p.1 }

pub returns-in-Err : goal.returns-in-Err
returns-in-Err c =
    let p = was_stopped sender_program c.args.step c.args.vectors.now _ _ _ (omega arith) c.in-Err.stop c.in-Err.is c.stopped.ensures in
    record { puts_text = p.0; prefix_len = p.1 }
