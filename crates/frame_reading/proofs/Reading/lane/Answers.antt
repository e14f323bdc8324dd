-- `frame_reading::Reading::lane` meets its contract. Assumes nothing.
use Rattle.std.proofs.Common.{arith}
use Rattle.frames.specs.Frames.{by_flag}
use Rattle.frame_reading.proofs.Characters.{with_octet, with_error, with_end, with_none}
use Rattle.frame_reading.proofs.Reading.lane.Goals as goal

pub returns-then-not-self : goal.returns-then-not-self
returns-then-not-self c = (with_none c.args.self (by_flag c.args.flag c.args.octet) c.if-not-self.true, omega arith)

pub returns-then-flag-eq0 : goal.returns-then-flag-eq0
returns-then-flag-eq0 c = (with_octet c.args.self c.args.flag c.args.octet c.if-not-self.false c.if-flag-eq0.true, omega arith)

pub returns-then-octet-eq254 : goal.returns-then-octet-eq254
returns-then-octet-eq254 c = (with_error c.args.self c.args.flag c.args.octet c.if-not-self.false c.if-flag-eq0.false c.if-octet-eq254.true, omega arith)

pub returns-then-self : goal.returns-then-self
returns-then-self c =
    (with_end c.args.self c.args.flag c.args.octet _ c.if-not-self.false c.if-flag-eq0.false c.if-octet-eq254.false (rw c.if-self.true), omega arith)

pub returns-else-self : goal.returns-else-self
returns-else-self c =
    (with_end c.args.self c.args.flag c.args.octet _ c.if-not-self.false c.if-flag-eq0.false c.if-octet-eq254.false (rw c.if-self.false), omega arith)
