-- `groups::controls_at` meets its contract: eight numbers up to 15 fit a byte. Assumes nothing.
use native.Mathlib.Omega.{arith}
use Rattle.groups.proofs.Four.{low_words}
use Rattle.groups.proofs.controls_at.Goals as goal

pub overflow_add-result-2 : goal.overflow_add-result-2
overflow_add-result-2 c = record { fits = omega (arith, low_words c.args.bytes.now c.args.at c.requires.2 c.requires.1) }

pub overflow_add-result-4 : goal.overflow_add-result-4
overflow_add-result-4 c = record { fits = omega (arith, low_words c.args.bytes.now c.args.at c.requires.2 c.requires.1) }

pub overflow_add-result-6 : goal.overflow_add-result-6
overflow_add-result-6 c = record { fits = omega (arith, low_words c.args.bytes.now c.args.at c.requires.2 c.requires.1) }

pub overflow_add-result-8 : goal.overflow_add-result-8
overflow_add-result-8 c = record { fits = omega (arith, low_words c.args.bytes.now c.args.at c.requires.2 c.requires.1) }

pub overflow_add-result-10 : goal.overflow_add-result-10
overflow_add-result-10 c =
    let args = c.args in
    let pre = c.requires in
    record { fits = omega (arith, low_words args.bytes.now args.at pre.2 pre.1) }

pub overflow_add-result-12 : goal.overflow_add-result-12
overflow_add-result-12 c =
    let args = c.args in
    let pre = c.requires in
    record { fits = omega (arith, low_words args.bytes.now args.at pre.2 pre.1) }

pub overflow_add-result-14 : goal.overflow_add-result-14
overflow_add-result-14 c =
    let args = c.args in
    let pre = c.requires in
    record { fits = omega (arith, low_words args.bytes.now args.at pre.2 pre.1) }
