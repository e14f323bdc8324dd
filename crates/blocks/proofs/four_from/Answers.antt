use Rattle.blocks.proofs.Laws.{fours}
use Rattle.blocks.proofs.four_from.Goals as goal

pub returns : goal.returns
returns c =
    let args = c.args in
    let pre = c.requires in
    let load = c.load in
    let load2 = c.load-x in
    let load3 = c.load-y in
    let load4 = c.load-z in
    fours args.s.now args.at args.sh load.result load2.result load3.result load4.result c.load_two-last.result pre.1 load.ensures
    load2.ensures load3.ensures load4.ensures c.load_two-last.ensures
