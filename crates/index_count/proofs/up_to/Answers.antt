-- `index_count::up_to` meets its contract. Assumes nothing.
use Prim.Native.Nat.{◌*◌, ◌/◌, ◌%◌, ◌-◌}
use mathlib.Core.Path.{◌≡◌, refl, ap, ◌∙◌}
use Rattle.bits.specs.Lists.{how_many}
use native.Mathlib.Omega.{arith}
use lib.ListN.{drop}
use Rattle.block.specs.Block.{is_error_vector}
use Rattle.index.proofs.Reading.{entry_count_lem, errors_read, starts_read}
use Rattle.index.specs.Index.{errors_at, starts_at}
use Rattle.tally.proofs.Tallies.{few, low_part}
use Rattle.tally.specs.declared.Tally.{Tally}
use Rattle.vector_tests.specs.Tests.{of_kind_s}
use Rattle.index_count.proofs.Counts.{part, up_to}
use Rattle.index_count.proofs.up_to.Goals as goal

pub tally_of-t-requires : goal.tally_of-t-requires
tally_of-t-requires c =
    let e : 5 * (128 * (c.args.a / 64)) ≡ 640 * (c.args.a / 64) = omega arith in
    rw e at (low_part c.args.bytes.now (128 * (c.args.a / 64)) (10 * c.args.a - 640 * (c.args.a / 64)) c.requires.1)

pub load_half-requires : goal.load_half-requires
load_half-requires c = omega (arith, c.requires.2, c.requires.3, entry_count_lem c.args.bytes.now)

pub overflow_add-result : goal.overflow_add-result
overflow_add-result c =
    let p = part c.args.bytes.now c.args.a (10 * c.args.a - 640 * (c.args.a / 64)) (640 * (c.args.a / 64)) c.requires.3 refl (omega arith) in
    let e = ap (λ (t : Tally). t.errors) c.tally_of-t.ensures ∙ ap (how_many is_error_vector) p in
    omega (arith, c.load_half.ensures.1, e, few is_error_vector (c.args.a % 64) (drop (10 * (64 * (c.args.a / 64))) c.args.bytes.now))

pub load_half-requires-2 : goal.load_half-requires-2
load_half-requires-2 c = omega (arith, c.requires.2, c.requires.3, entry_count_lem c.args.bytes.now)

pub overflow_add-result-2 : goal.overflow_add-result-2
overflow_add-result-2 c =
    let p = part c.args.bytes.now c.args.a (10 * c.args.a - 640 * (c.args.a / 64)) (640 * (c.args.a / 64)) c.requires.3 refl (omega arith) in
    let e = ap (λ (t : Tally). t.starts) c.tally_of-t.ensures ∙ ap (how_many of_kind_s) p in
    omega (arith, c.load_half-2.ensures.1, e, few of_kind_s (c.args.a % 64) (drop (10 * (64 * (c.args.a / 64))) c.args.bytes.now))

pub returns : goal.returns
returns c =
    let b = c.args.bytes.now in
    let x = c.args.index.now in
    let a = c.args.a in
    let p = part c.args.bytes.now c.args.a (10 * c.args.a - 640 * (c.args.a / 64)) (640 * (c.args.a / 64)) c.requires.3 refl (omega arith) in
    let e = up_to is_error_vector (errors_at x) b a _ _ c.requires.3 (errors_read x (a / 64) c.load_half.result c.load_half.ensures.0) (ap (λ (t : Tally). t.errors) c.tally_of-t.ensures ∙ ap (how_many is_error_vector) p) in
    let s = up_to of_kind_s (starts_at x) b a _ _ c.requires.3 (starts_read x (a / 64) c.load_half-2.result c.load_half-2.ensures.0) (ap (λ (t : Tally). t.starts) c.tally_of-t.ensures ∙ ap (how_many of_kind_s) p) in
    λ i. record { errors = e i; starts = s i }
