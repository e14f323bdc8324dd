-- `line::put_words` meets its contract. Assumes nothing.
use native.Mathlib.Omega.{arith}
use lib.ListN.{length-set}
use Rattle.line.proofs.Laws.{words_put}
use Rattle.line.proofs.put_words.Goals as goal

pub shape_of-room : goal.shape_of-room
shape_of-room c = simp length-set (omega arith)

pub returns : goal.returns
returns c =
    let args = c.args in
    let pre = c.requires in
    let store = c.store in
    let store2 = c.store-2 in
    let store3 = c.store-3 in
    let a = args in
    words_put a.at a.w a.x a.y a.z a.last a.room.now store.new.room store2.new.room store3.new.room c.store-4.new.room
    pre store.ensures store2.ensures store3.ensures c.store-4.ensures
