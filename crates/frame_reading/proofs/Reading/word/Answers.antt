-- `frame_reading::Reading::word` meets its contract. Assumes nothing.
use Rattle.std.proofs.Common.{ap, sym, ◌∙◌, arith}
use Rattle.frame_reading.specs.Reading.{with_character, with_three, with_word}
use Rattle.frame_reading.specs.declared.Reading.{Reading}
use Rattle.frame_reading.proofs.Characters.{lane_zero, word_octets}
use Rattle.frame_reading.proofs.Reading.word.Goals as goal

pub returns-then-flags-eq0 : goal.returns-then-flags-eq0
returns-then-flags-eq0 c = (word_octets c.args.self c.args.word.now c.requires.2 c.if-flags-eq0.true, omega arith)

pub returns : goal.returns
unfolding with_word
returns c = (
  c.three.ensures.0 ∙ ap (λ (r : Reading). with_three r c.args.word.now) (c.lane.ensures.0 ∙ ap (with_character c.args.self) (sym (lane_zero c.args.word.now))),
  omega arith,
)
