use Rattle.blocks.proofs.Laws.{one_header_lem, one_payload}
use Rattle.blocks.proofs.one_at.Goals as goal

pub returns : goal.returns
returns c =
    let s = c.args.s.now in (
      one_header_lem s c.args.pos c.load_two-first.result c.load_two-first.ensures,
      one_payload s c.args.pos c.load-w.result c.load_two-last.result c.load-w.ensures c.load_two-last.ensures,
    )
