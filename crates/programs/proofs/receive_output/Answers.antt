-- `programs::receive_output` meets its contract. Assumes nothing.
use native.Mathlib.Omega.{arith}
use lib.ListN.{replicate, length-replicate}
use Prim.Native.Nat.{ℕ}
use Rattle.programs.proofs.Received.{vectors_small, lines_fit, lines_end, received_written, refused_written}
use Rattle.programs.proofs.receive_output.Goals as goal

pub overflow_mul-n : goal.overflow_mul-n
overflow_mul-n c =
    omega (arith, vectors_small _ _ (length-replicate {A = ℕ} 60000 0) _ _ c.in-Ok.ensures.0 c.in-Ok.ensures.1 c.receive.auto.room)

pub hex_lines-k-requires : goal.hex_lines-k-requires
hex_lines-k-requires c =
    omega
    (arith, c.requires, lines_fit _ _ (length-replicate {A = ℕ} 60000 0) _ _ c.in-Ok.ensures.0 c.in-Ok.ensures.1 c.receive.auto.room _ c.body.ensures)

pub summary_lines-requires : goal.summary_lines-requires
summary_lines-requires c =
    let k = c.hex_lines-k in
    omega
    (arith, c.requires, k.auto.out, lines_end _ _ (length-replicate {A = ℕ} 60000 0) _ _ c.in-Ok.ensures.0 c.in-Ok.ensures.1 c.receive.auto.room _ c.body.ensures _ _ _ k.ensures)

pub returns-in-Ok : goal.returns-in-Ok
returns-in-Ok c =
    received_written _ _ (length-replicate {A = ℕ} 60000 0) _ _ c.in-Ok.ensures.0 c.in-Ok.ensures.1 c.receive.auto.room _
    c.body.ensures _ _ _ c.hex_lines-k.ensures _ _ c.requires
    c.summary_lines.ensures

pub returns-in-Err : goal.returns-in-Err
returns-in-Err c =
    refused_written _ (replicate 60000 0) (length-replicate {A = ℕ} 60000 0) _ _ _ _ _
    c.in-Err.ensures.0
    c.refused_line.ensures
