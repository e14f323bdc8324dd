-- The measure is twice the words that remain, and one more between frames. Assumes nothing.
use Rattle.std.proofs.Common.{◌+◌, ◌*◌, ◌-◌, ◌/◌, length}
use Rattle.frame_list.proofs.+between_inside.Given as goal

abbrev pub decreases-between : goal.decreases-between
decreases-between l = 2 * (length l.bytes.now / 5 - l.k) + 1

abbrev pub decreases-inside : goal.decreases-inside
decreases-inside l = 2 * (length l.bytes.now / 5 - l.k)
