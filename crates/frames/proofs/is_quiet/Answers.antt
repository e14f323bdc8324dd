-- `frames::is_quiet` meets its contract. Assumes nothing.
use Rattle.std.proofs.Common.{refl}
use Rattle.frames.proofs.Quiet.{idles_at, set_at}
use Rattle.frames.proofs.is_quiet.Goals as goal

pub returns-then-word-eq30182672143 : goal.returns-then-word-eq30182672143
returns-then-word-eq30182672143 c =
    idles_at c.args.word.now (λ i. (c.type_inv.word i).fits) c.from.result c.load_half.result _ (c.from.ensures, c.load_half.ensures.0, refl) c.if-word-eq30182672143.true

pub returns-else-word-eq30182672143 : goal.returns-else-word-eq30182672143
returns-else-word-eq30182672143 c =
    set_at c.args.word.now (λ i. (c.type_inv.word i).fits) c.from.result c.load_half.result _ (c.from.ensures, c.load_half.ensures.0, refl) c.if-word-eq30182672143.false
