-- `programs::send_output` meets its contract. Assumes nothing.
use native.Mathlib.Omega.{arith}
use lib.ListN.{replicate, length-replicate}
use Prim.Native.Nat.{ℕ}
use Rattle.programs.proofs.Sent.{body_fits, sent_written, refused_written}
use Rattle.programs.proofs.send_output.Goals as goal

pub line_records-requires : goal.line_records-requires
line_records-requires c =
    let pre = c.requires in
    omega
    (arith, pre.1, body_fits _ _ (length-replicate {A = ℕ} 49500 0) _ _ _ _ c.in-Ok.ensures.0 c.in-Ok.ensures.1 _ c.body.ensures pre.0)

pub returns-in-Ok : goal.returns-in-Ok
returns-in-Ok c =
    sent_written _ _ (length-replicate {A = ℕ} 49500 0) _ _ _ _ c.in-Ok.ensures.0 c.in-Ok.ensures.1 _ c.body.ensures _ _ _ c.line_records.ensures

pub returns-in-Err : goal.returns-in-Err
returns-in-Err c =
    refused_written _ (replicate 49500 0) (length-replicate {A = ℕ} 49500 0) _ _ _ _ _ c.in-Err.ensures.0 c.refused_line.ensures
