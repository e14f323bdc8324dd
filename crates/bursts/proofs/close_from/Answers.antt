-- `bursts::close_from` meets its contract. The vector of the block that is held, counted from nothing on. Assumes nothing.
use mathlib.Core.Path.{◌≡◌, sym, ap, ◌∙◌, subst}
use mathlib.Core.Bool.{true}
use Rattle.receiving.specs.Loop.{held_handed}
use Rattle.receiving.specs.Parts.{no_counts, none_handed}
use Rattle.receiving.specs.Counted.{HandedWithin}
use Rattle.receiving.specs.declared.Handed.{Handed}
use Rattle.receiving.specs.declared.Receiver.{Receiver}
use Rattle.receiving.proofs.Counted.{handed_none}
use Rattle.bursts.proofs.Going.{last_fits, close_fits, close_length, close_is}
use Rattle.bursts.proofs.close_from.Goals as goal

-- what `default` ensures
none : (h : Handed) → (h.begun ≡ 0) × (h.replaced ≡ 0) → h ≡ none_handed
none h e = λ i. record { begun = e.0 i; replaced = e.1 i }

counted : (r : Receiver) (start handed : Handed) → (start.begun ≡ 0) × (start.replaced ≡ 0) → handed ≡ held_handed r.have start r.state r.held true
    → handed ≡ held_handed r.have none_handed r.state r.held true
counted r start handed e f = f ∙ ap (λ (h : Handed). held_handed r.have h r.state r.held true) (none start e)

pub receive_last-last-requires : goal.receive_last-last-requires
receive_last-last-requires c = (
  last_fits c.args.s c.args.room.now c.requires.passes c.args.start c.requires.means,
  subst (HandedWithin 6600000) (sym (none _ c.default.ensures)) (handed_none 6600000),
)

pub closed_state-next-requires : goal.closed_state-next-requires
closed_state-next-requires c =
    close_fits c.args.s c.args.room.now c.requires.passes c.args.start c.requires.means c.receive_last-last.result.handed
    (counted c.args.start _ _ c.default.ensures c.receive_last-last.ensures.1)

pub shape_of-room : goal.shape_of-room
shape_of-room c =
    close_length c.args.s c.args.room.now c.requires.passes c.args.start c.requires.means c.receive_last-last.result.handed
    (counted c.args.start _ _ c.default.ensures c.receive_last-last.ensures.1) c.receive_last-last.new.room c.receive_last-last.ensures.0

pub returns : goal.returns
returns c =
    let last = c.receive_last-last in
    let z = c.default-2.ensures.0 in
    let k : c.default-2.result.counts ≡ no_counts =
    λ i. record { tested = z.0 i; slips = z.1.0 i; headers = z.1.1.0 i; types = z.1.1.1.0 i; codes = z.1.1.1.1.0 i; sets = z.1.1.1.1.1 i } in
    close_is c.args.s c.args.room.now c.requires.passes c.args.start c.requires.means last.result.handed
    (counted c.args.start _ _ c.default.ensures last.ensures.1) last.new.room last.ensures.0 c.closed_state-next.result
    last.result.alone _ c.accepted.result c.closed_state-next.ensures last.ensures.2 k c.accepted.ensures.0 c.accepted.ensures.1
    c.accepted.ensures.2
