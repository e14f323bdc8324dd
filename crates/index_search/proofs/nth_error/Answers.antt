-- `index_search::nth_error` meets its contract. Assumes nothing.
use Rattle.std.proofs.Common.{rules, ◌≡◌, true, false, sym, ap, ◌∙◌, arith}
use Rattle.block.specs.Block.{is_error_vector}
use Rattle.index_search.proofs.Nth.{look_none, look_found, look_next, look_other}
use Rattle.index_search.proofs.nth_error.Goals as goal

pub returns-then-left-eq1 : goal.returns-then-left-eq1
returns-then-left-eq1 c =
    let g = c.in-Some.ensures.steps in
    let x : is_error_vector c.in-Some.vector.now ≡ true = sym (sym c.if-is_error.true ∙ c.is_error.ensures ∙ ap is_error_vector c.vector_of.ensures.1) in
    rw g.1 (look_found _ _ _ _ _ c.loop-i.invariant.looking c.in-Some.vector.now _ g.0.1.0 (g.0.1.1 ∙ c.loop-i.invariant.ten) x c.if-left-eq1.true)

pub loop-i-preserved-then-is_error : goal.loop-i-preserved-then-is_error
loop-i-preserved-then-is_error c =
    let g = c.in-Some.ensures.steps in
    let x : is_error_vector c.in-Some.vector.now ≡ true = sym (sym c.if-is_error.true ∙ c.is_error.ensures ∙ ap is_error_vector c.vector_of.ensures.1) in
    record {
      can_next = search rules;
      is_finite = tt;
      ten = g.0.0 ∙ c.loop-i.invariant.ten;
      looking =
          rw (c.saturating_sub-left.ensures, g.2)
          (look_next _ _ _ _ _ c.loop-i.invariant.looking c.in-Some.vector.now _ g.0.1.0 (g.0.1.1 ∙ c.loop-i.invariant.ten) x c.if-left-eq1.false);
    }

pub loop-i-preserved : goal.loop-i-preserved
loop-i-preserved c =
    let g = c.in-Some.ensures.steps in
    let x : is_error_vector c.in-Some.vector.now ≡ false = sym (sym c.if-is_error.false ∙ c.is_error.ensures ∙ ap is_error_vector c.vector_of.ensures.1) in
    record {
      can_next = search rules;
      is_finite = tt;
      ten = g.0.0 ∙ c.loop-i.invariant.ten;
      looking = rw g.2 (look_other _ _ _ _ _ c.loop-i.invariant.looking c.in-Some.vector.now _ g.0.1.0 (g.0.1.1 ∙ c.loop-i.invariant.ten) x);
    }

pub returns : goal.returns
returns c = look_none _ _ _ _ _ c.loop-i.invariant.looking (omega (arith, c.in-None.ensures.steps.0.1.0, c.loop-i.invariant.ten))
