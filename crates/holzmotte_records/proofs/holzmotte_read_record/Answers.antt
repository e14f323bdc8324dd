-- `holzmotte_records::holzmotte_read_record` meets its contract. Assumes nothing.
use Rattle.refusals.proofs.Laws.{number_small}
use Rattle.holzmotte_records.proofs.Through.{reads_found, reads_refused}
use Rattle.holzmotte_records.proofs.holzmotte_read_record.Goals as goal

pub returns-in-Ok : goal.returns-in-Ok
returns-in-Ok c = reads_found _ _ _ _ _ _ _ c.in-Ok.ensures c.words.ensures c.told.ensures.0 c.told.ensures.1

pub returns-in-Err : goal.returns-in-Err
returns-in-Err c = reads_refused _ _ _ _ _ _ _ c.in-Err.ensures (number_small _) c.refusal.ensures c.told-in-Err.ensures.1
