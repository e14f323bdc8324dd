-- A reviewer can skip this file. The numbers of a link that a receiver reaches.
use Rattle.std.specs.Prelude.{◌^◌, ◌≤◌, ◌<◌}
use Rattle.receiving.specs.declared.Link.{Link}

pub record InRange (l : Link) : Type 0 where
  pub tested : l.lock.tested < 64
  pub invalid : l.lock.invalid < 16
  pub blocks : l.rate.blocks < 19531
  pub misses : l.rate.invalid ≤ l.rate.blocks
  pub history : l.history < 2 ^ 58
