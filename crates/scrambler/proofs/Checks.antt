-- The definitions at work on single bits, computed. Assumes nothing.
use mathlib.Core.Path.{◌≡◌, refl}
use Prim.Native.Nat.{◌+◌, ◌^◌}
use Rattle.bits.specs.Bits.{bit, number}
use Rattle.register.specs.Register.{mix, push, history, sent, pushes, got}
use Rattle.scrambler.specs.Scrambler.{scrambled, descrambled, mirror}

-- bit 38 of the state stands for the bit 39 places before the first, bit 57 for the one 58 places before
tap_39 : scrambled 0 (mirror (2 ^ 38)) ≡ 2 ^ 0 + 2 ^ 19 + 2 ^ 39
unfolding bit number mix push history sent scrambled mirror
tap_39 = refl

tap_58 : scrambled 0 (mirror (2 ^ 57)) ≡ 2 ^ 0 + 2 ^ 39 + 2 ^ 58
unfolding bit number mix push history sent scrambled mirror
tap_58 = refl

-- one flipped line bit comes back three times: at its place, 39 and 58 places after it
three_times : descrambled (2 ^ 3) (mirror 0) ≡ 2 ^ 3 + 2 ^ 42 + 2 ^ 61
unfolding bit number mix push pushes got descrambled mirror
three_times = refl
