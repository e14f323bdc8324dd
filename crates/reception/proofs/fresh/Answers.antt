-- `reception::fresh` meets its contract. Assumes nothing.
use mathlib.Core.Path.{refl, sym, subst}
use mathlib.Core.Bool.{false}
use Rattle.carrying.proofs.Laws.{empty, bits_none, sound_none}
use Rattle.receiving.specs.Loop.{feed_in, held_in}
use Rattle.receiving.specs.Ranges.{InRange}
use Rattle.receiving.proofs.Ranges.{range_fresh}
use Rattle.reception.proofs.Defaults.{link_default}
use Rattle.reception.proofs.fresh.Goals as goal

pub returns : goal.returns
unfolding feed_in held_in
returns c =
    let link = link_default c.args.edition c.default-2.result c.default-3.result c.default-2.ensures c.default-3.ensures in
    record {
      feed = λ i. record { bits = bits_none c.default.result c.default.ensures.0 i; skip = false; link = link i };
      range = subst InRange (sym link) (range_fresh c.args.edition);
      sound = sound_none c.default.result (empty c.default.ensures);
      state = refl;
      held = refl;
    }
