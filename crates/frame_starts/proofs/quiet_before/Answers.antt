-- `frame_starts::quiet_before` meets its contract. Assumes nothing.
use Rattle.std.proofs.Common.{sym, ap, ◌∙◌, arith}
use borrow.Author.Tests.{le-ltb}
use Rattle.frames.specs.Frames.{quiet}
use Rattle.frames.proofs.Words.{quiet_first, quiet_last}
use Rattle.frame_starts.proofs.quiet_before.Goals as goal

pub returns-then-k-gt0 : goal.returns-then-k-gt0
returns-then-k-gt0 c = c.is_quiet.ensures ∙ ap quiet c.nth_word.ensures ∙ sym (quiet_last c.args.bytes.now c.args.k (λ e. omega arith))

pub returns-else-k-gt0 : goal.returns-else-k-gt0
returns-else-k-gt0 c = le-ltb 0 c.args.k c.if-k-gt0.false ∙ sym (quiet_first c.args.bytes.now c.args.k (omega arith))
