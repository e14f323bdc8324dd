use mathlib.Core.Path.{subst, sym}
use Prim.Native.Nat.{ℕ, ◌^◌, ◌<◌}
use borrow.Author.Tests.{eqb-true}
use Rattle.scrambler.proofs.Laws.{line_after_lt}
use Rattle.lock_groups.proofs.FourInLock.{all_idles, all_same}
use Rattle.lock_groups.proofs.all_idle.Goals as goal

pub descramble-b-requires : goal.descramble-b-requires
descramble-b-requires c = subst (λ (n : ℕ). n < 2 ^ 58) (sym c.descramble-a.ensures.1) (line_after_lt c.args.f.a c.args.history c.requires)

pub descramble-c-requires : goal.descramble-c-requires
descramble-c-requires c =
    let args = c.args in
    let pre = c.requires in
    let descramble = c.descramble-a in
    subst (λ (n : ℕ). n < 2 ^ 58) (sym c.descramble-b.ensures.1)
    (line_after_lt args.f.b descramble.result.history
    (subst (λ (n : ℕ). n < 2 ^ 58) (sym descramble.ensures.1) (line_after_lt args.f.a args.history pre)))

pub descramble-d-requires : goal.descramble-d-requires
descramble-d-requires c =
    let args = c.args in
    let pre = c.requires in
    let descramble = c.descramble-a in
    let descramble2 = c.descramble-b in
    subst (λ (n : ℕ). n < 2 ^ 58) (sym c.descramble-c.ensures.1)
    (line_after_lt args.f.c descramble2.result.history
    (subst (λ (n : ℕ). n < 2 ^ 58) (sym descramble2.ensures.1)
    (line_after_lt args.f.b descramble.result.history
    (subst (λ (n : ℕ). n < 2 ^ 58) (sym descramble.ensures.1) (line_after_lt args.f.a args.history pre)))))

pub returns : goal.returns
returns c =
    let args = c.args in
    let descramble = c.descramble-a in
    let descramble2 = c.descramble-b in
    let descramble3 = c.descramble-c in
    let descramble4 = c.descramble-d in
    λ e.
    let same = all_same descramble.result.word descramble2.result.word descramble3.result.word descramble4.result.word 0x1e (eqb-true _ 0 e) in
    all_idles args.f args.history descramble.result.word descramble.result.history descramble2.result.word descramble2.result.history
    descramble3.result.word descramble3.result.history descramble4.result.word descramble.ensures.0 descramble.ensures.1
    descramble2.ensures.0 descramble2.ensures.1 descramble3.ensures.0 descramble3.ensures.1 descramble4.ensures.0 same.0 same.1
    same.2 same.3
