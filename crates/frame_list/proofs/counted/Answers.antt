-- `frame_list::counted` meets its contract. Assumes nothing.
use mathlib.Core.Path.{sym, ap, ◌∙◌}
use mathlib.Core.Bool.{Bool, cond}
use native.Mathlib.Omega.{arith}
use borrow.Author.Tests.{lt-ltb, le-ltb}
use Rattle.frame_list.specs.Answer.{frames_number}
use Rattle.frame_list.proofs.counted.Goals as goal

pub returns-then-list-bytes : goal.returns-then-list-bytes
returns-then-list-bytes c =
    let n = frames_number c.args.bytes.now in
    (c.count.ensures.0 ∙ sym (ap (λ (b : Bool). cond b n 0) (lt-ltb _ _ c.if-list-bytes.true)), c.count.ensures.1)

pub returns : goal.returns
returns c =
    let n = frames_number c.args.bytes.now in
    (sym (ap (λ (b : Bool). cond b n 0) (le-ltb _ _ c.if-list-bytes.false)), omega arith)
