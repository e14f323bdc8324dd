-- `index::fill` meets its contract. Assumes nothing.
use Rattle.std.proofs.Common.{◌≡◌, ◌+◌, ◌*◌, ◌-◌, ◌/◌, length, drop, ap, refl, ◌∙◌, arith}
use Rattle.bits.specs.Lists.{how_many}
use Rattle.block.specs.Block.{is_error_vector}
use Rattle.tally.proofs.Tallies.{few, low_part}
use Rattle.tally.specs.declared.Tally.{Tally}
use Rattle.vector_tests.specs.Tests.{of_kind_s}
use Rattle.index.proofs.Filling.{filled_first, filled_length, filled_next, filled_last, part}
use Rattle.index.proofs.Reading.{entry_count_lem}
use Rattle.index.proofs.fill.Goals as goal

pub loop-k-init : goal.loop-k-init
loop-k-init c = rw (c.default-before.ensures.0, c.default-before.ensures.1) (filled_first c.args.bytes.now c.args.index.now)

pub put_entry-requires : goal.put_entry-requires
put_entry-requires c =
    omega (arith, entry_count_lem c.args.bytes.now, c.loop-k-test.true, c.requires.2, filled_length c.args.bytes.now c.args.index.now c.requires.2 _ _ _ _ c.loop-k.invariant)

pub tally_of-tally-requires : goal.tally_of-tally-requires
tally_of-tally-requires c =
    let e : 5 * (128 * c.loop-k.k) ≡ 640 * c.loop-k.k = omega arith in
    rw e at (low_part c.args.bytes.now (128 * c.loop-k.k) (640 * c.loop-k.k + 640 - 640 * c.loop-k.k) c.requires.1)

pub overflow_add-before : goal.overflow_add-before
overflow_add-before c =
    let b = c.args.bytes.now in
    let p = part b c.loop-k.k (640 * c.loop-k.k + 640 - 640 * c.loop-k.k) (640 * c.loop-k.k) c.loop-k-test.true refl (omega arith) in
    let e = ap (λ (t : Tally). t.errors) c.tally_of-tally.ensures ∙ ap (how_many is_error_vector) p in
    omega (arith, c.requires.0, c.loop-k-test.true, c.loop-k.invariant.errors_are, few is_error_vector (64 * c.loop-k.k) b, e, few is_error_vector 64 (drop (10 * (64 * c.loop-k.k)) b))

pub overflow_add-before-in-loop-k : goal.overflow_add-before-in-loop-k
overflow_add-before-in-loop-k c =
    let b = c.args.bytes.now in
    let p = part b c.loop-k.k (640 * c.loop-k.k + 640 - 640 * c.loop-k.k) (640 * c.loop-k.k) c.loop-k-test.true refl (omega arith) in
    let e = ap (λ (t : Tally). t.starts) c.tally_of-tally.ensures ∙ ap (how_many of_kind_s) p in
    omega (arith, c.requires.0, c.loop-k-test.true, c.loop-k.invariant.starts_are, few of_kind_s (64 * c.loop-k.k) b, e, few of_kind_s 64 (drop (10 * (64 * c.loop-k.k)) b))

pub loop-k-preserved : goal.loop-k-preserved
loop-k-preserved c =
    let b = c.args.bytes.now in
    let p = part b c.loop-k.k (640 * c.loop-k.k + 640 - 640 * c.loop-k.k) (640 * c.loop-k.k) c.loop-k-test.true refl (omega arith) in
    filled_next b c.args.index.now c.requires.2 _ _ _ _ c.loop-k.invariant _ _ _ (omega (arith, c.loop-k-test.true)) c.put_entry.ensures
    (ap (λ (t : Tally). t.errors) c.tally_of-tally.ensures ∙ ap (how_many is_error_vector) p) (ap (λ (t : Tally). t.starts) c.tally_of-tally.ensures ∙ ap (how_many of_kind_s) p)

pub put_entry-requires-2 : goal.put_entry-requires-2
put_entry-requires-2 c =
    omega (arith, entry_count_lem c.args.bytes.now, c.loop-k.invariant.inside, c.requires.2, filled_length c.args.bytes.now c.args.index.now c.requires.2 _ _ _ _ c.loop-k.invariant)

pub returns : goal.returns
returns c =
    let e : c.loop-k.k ≡ length c.args.bytes.now / 640 = omega (arith, c.loop-k.invariant.inside, c.loop-k-test.false) in
    let f = rw e at c.loop-k.invariant in
    filled_last c.args.bytes.now c.args.index.now c.requires.2 _ _ _ _ f _ (omega arith) c.put_entry-2.ensures
