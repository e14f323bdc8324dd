-- `vector_checks::check_vectors` meets its contract. Assumes nothing.
use mathlib.Core.Path.{sym}
use Prim.Native.Nat.{◌≤◌}
use native.Mathlib.Omega.{arith}
use lib.ListN.{length}
use borrow.Author.Tests.{le-ltb, lt-ltb, eq-eqb, ne_eqb}
use Rattle.refusals.specs.First.{first}
use Rattle.control_bytes.specs.Control.{high_control}
use Rattle.vector_checks.proofs.check_vectors.Goals as goal

pub returns-then-n-gt1000000 : goal.returns-then-n-gt1000000
unfolding first
returns-then-n-gt1000000 c = let a = lt-ltb _ _ c.if-n-gt1000000.true in simp a

pub returns-then-n-ne0 : goal.returns-then-n-ne0
unfolding first
returns-then-n-ne0 c =
    let a = le-ltb _ _ c.if-n-gt1000000.false in
    let b = ne_eqb _ _ c.if-n-ne0.true in
    simp (a, b)

pub returns-in-Some : goal.returns-in-Some
unfolding first
returns-in-Some c =
    let a = le-ltb _ _ c.if-n-gt1000000.false in
    let b = eq-eqb _ _ c.if-n-ne0.false in
    let h = sym c.in-Some.ensures.0 in
    let f = lt-ltb _ _ c.in-Some.ensures.1 in
    simp (a, b, h, f)

pub returns : goal.returns
unfolding first
returns c =
    let a = le-ltb _ _ c.if-n-gt1000000.false in
    let b = eq-eqb _ _ c.if-n-ne0.false in
    let n = length c.args.vectors.now in
    let h : n ≤ high_control c.args.vectors.now = omega (arith, c.in_default.ensures) in
    let f = le-ltb (high_control c.args.vectors.now) n h in
    simp (a, b, f)
