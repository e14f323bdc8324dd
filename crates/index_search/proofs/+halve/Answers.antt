-- `index_search::halve`, which calls itself, meets its contract. Assumes nothing.
use Rattle.std.proofs.Common.{◌+◌, ◌/◌, ap, ◌∙◌, arith}
use Rattle.index.proofs.Reading.{errors_read}
use Rattle.index_search.specs.Search.{one_more_read}
use Rattle.index_search.specs.declared.Halved.{Halved}
use Rattle.index_search.proofs.Halving.{halves_one, halves_above, halves_below, halves_bracket}
use Rattle.index_search.proofs.+halve.Goals as goal
use Rattle.index_search.proofs.+halve.Goals.{then-load_half-n, else-load_half-n}

pub returns-then-len-le1 : goal.returns-then-len-le1
returns-then-len-le1 t c = halves_one c.args.index.now c.args.n c.args.low c.args.len c.if-len-le1.true

pub overflow_add-result : goal.overflow_add-result
overflow_add-result t c =
    let a = c.args in
    elim c.if-load_half-n.branch [
      | then-load_half-n w ↦ omega (arith, ap (λ (h : Halved). h.read) w.rest-is, (halves_bracket a.index.now a.n _ _ w.halve-rest.result (omega arith) w.halve-rest.ensures).reads)
      | else-load_half-n w ↦
          omega (arith, ap (λ (h : Halved). h.read) w.rest-is, (halves_bracket a.index.now a.n _ _ w.halve-rest-else-load_half-n.result (omega arith) w.halve-rest-else-load_half-n.ensures).reads)
    ]

pub returns : goal.returns
returns t c =
    let a = c.args in
    let e = errors_read a.index.now (a.low + a.len / 2) c.load_half.result c.load_half.ensures.0 in
    elim c.if-load_half-n.branch [
      | then-load_half-n w ↦
          λ enough l. ap one_more_read w.rest-is
          ∙ halves_above a.index.now a.n a.low a.len c.load_half.result w.halve-rest.result c.if-len-le1.false e w.if-load_half-n.true w.halve-rest.ensures enough l
      | else-load_half-n w ↦
          λ enough l. ap one_more_read w.rest-is
          ∙ halves_below a.index.now a.n a.low a.len c.load_half.result w.halve-rest-else-load_half-n.result c.if-len-le1.false e w.if-load_half-n.false w.halve-rest-else-load_half-n.ensures enough l
    ]
