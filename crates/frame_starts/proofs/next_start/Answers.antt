-- `frame_starts::next_start` meets its contract. Assumes nothing.
use Rattle.std.proofs.Common.{◌≡◌, sym, ap, ◌∙◌, false, ◌&&◌, arith}
use mathlib.Core.Bool.{and-false}
use Rattle.frames.specs.Frames.{quiet, starts}
use Rattle.frames.specs.Words.{nth_word, quiet_before}
use Rattle.frames.proofs.Words.{quiet_next, left_none, left_end}
use Rattle.frame_starts.proofs.next_start.Goals as goal
use Rattle.frame_starts.proofs.next_start.Goals.{else-before-via-then-before+else-has_start, else-before-via-else-before}

pub loop-j-preserved : goal.loop-j-preserved
loop-j-preserved c =
    let b = c.args.bytes.now in
    let j = c.loop-j.j in
    let none : (quiet_before b j && starts (nth_word b j)) ≡ false =
    elim c.else-before.branch [
      | else-before-via-then-before+else-has_start w ↦
          let s : starts (nth_word b j) ≡ false = sym (w.has_start.ensures ∙ ap starts c.nth_word-word.ensures) ∙ w.if-has_start.false in
          rw s (and-false (quiet_before b j))
      | else-before-via-else-before w ↦
          let s : quiet_before b j ≡ false = sym c.loop-j.invariant.before ∙ w.if-before.false in
          rw s
    ] in
    record {
      before = c.is_quiet-before.ensures ∙ ap quiet c.nth_word-word.ensures ∙ sym (quiet_next b j);
      rest = c.loop-j.invariant.rest ∙ left_none b j c.loop-j-test.true none;
    }

pub returns : goal.returns
returns c = c.loop-j.invariant.rest ∙ left_end c.args.bytes.now c.loop-j.j (omega arith)
