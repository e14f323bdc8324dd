-- What its groups come to is what the definitions say from INIT and the start state.
use mathlib.Core.Path.{refl}
use Rattle.scrambler.proofs.Laws.{mirror_lt}
use Rattle.sending.proofs.Answers.{answered, line_placed}
use Rattle.sending.proofs.send_all.Goals as goal

pub send_groups-end-requires : goal.send_groups-end-requires
send_groups-end-requires c =
    let p = c.requires in
    (p.0, p.1, p.2, rw c.mirrored.ensures (mirror_lt c.args.start), refl, p.3)

pub returns-clause-answer : goal.returns-clause-answer
returns-clause-answer c =
    answered c.args.edition _ _ _ c.args.start _ _ c.mirrored.ensures c.send_groups-end.ensures _ _ c.mirrored-2.ensures c.state_number.ensures.0

pub returns-clause-line_put : goal.returns-clause-line_put
returns-clause-line_put c = line_placed c.args.edition _ _ _ c.args.start _ _ c.mirrored.ensures c.send_groups-end.ensures
