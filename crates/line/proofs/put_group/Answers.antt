-- `line::put_group` meets its contract. Assumes nothing.
use Rattle.line.proofs.Laws.{group_put}
use borrow.Author.Rules.{rules}
use Rattle.line.proofs.put_group.Goals as goal

pub returns : goal.returns
returns c =
    let a = c.args in
    let p = c.requires in
    group_put a.a.header a.a.payload a.b.header a.b.payload a.c.header a.c.payload a.d.header a.d.payload
    p.1 p.2 p.3 p.4 (search rules) (search rules) (search rules) (search rules)
    a.at a.room.now c.put_words.new.room c.put_words.ensures
