-- The number itself falls. Assumes nothing.
use Rattle.display.proofs.+decimal_digits.Given as goal

abbrev pub decreases-decimal_digits : goal.decreases-decimal_digits
decreases-decimal_digits l = l.n
