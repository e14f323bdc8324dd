-- `frame_starts::count` meets its contract. Assumes nothing.
use Rattle.std.proofs.Common.{ℕ, ◌≡◌, ◌+◌, refl, sym, ap, ◌∙◌, Bool, ◌&&◌, List, length, zero-add, arith}
use Rattle.frames.specs.Frames.{Frame, quiet, starts}
use Rattle.frames.specs.Words.{nth_word, quiet_before, frames_left}
use Rattle.frames.proofs.Words.{quiet_first, quiet_next, left_end, left_all}
use Rattle.frame_starts.proofs.Counting.{count_step}
use Rattle.frame_starts.proofs.count.Goals as goal
use Rattle.frame_starts.proofs.count.Goals.{then-before, else-before}

pub loop-k-init : goal.loop-k-init
loop-k-init c = record { before = sym (quiet_first c.args.bytes.now 0 refl); number = zero-add (length (frames_left c.args.bytes.now 0)); few = omega arith }

pub loop-k-preserved : goal.loop-k-preserved
loop-k-preserved c =
    let b = c.args.bytes.now in
    let k = c.loop-k.k in
    let w : c.nth_word-word.result.now ≡ nth_word b k = c.nth_word-word.ensures in
    let from : c.if-before.from ≡ (c.loop-k.before && starts (nth_word b k)) =
    elim c.if-before.branch [
      | then-before t ↦ t.from-is ∙ t.has_start.ensures ∙ ap starts w ∙ ap (λ (q : Bool). q && starts (nth_word b k)) (sym t.if-before.true)
      | else-before t ↦ t.from-is ∙ t.if-before.false ∙ ap (λ (q : Bool). q && starts (nth_word b k)) (sym t.if-before.false)
    ] in
    let is : c.if-before.from ≡ (quiet_before b k && starts (nth_word b k)) = from ∙ ap (λ (q : Bool). q && starts (nth_word b k)) c.loop-k.invariant.before in
    let step = count_step b k c.from.result c.loop-k-test.true (λ t. let f = is ∙ t in rw f at c.from.ensures) (λ t. let f = is ∙ t in rw f at c.from.ensures) in
    record {
      before = c.is_quiet-before.ensures ∙ ap quiet w ∙ sym (quiet_next b k);
      number = omega (arith, step.0, c.loop-k.invariant.number);
      few = omega (arith, step.1, c.loop-k.invariant.few);
    }

pub returns : goal.returns
returns c =
    let b = c.args.bytes.now in
    let e = ap (λ (fs : List Frame). length fs) (left_end b c.loop-k.k (omega arith)) in
    let a = ap (λ (fs : List Frame). length fs) (left_all b) in
    (omega (arith, c.loop-k.invariant.number), omega (arith, c.loop-k.invariant.few))
