-- Any two answers that meet a public function's promise are equal. What one vector's step promises is enough for a group, and no more.
use mathlib.Core.Path.{◌≡◌, sym, ◌∙◌}
use Rattle.block.specs.declared.Coded.{Coded}
use Rattle.transmit.specs.Steps.{idle_coded, low_power_coded}

pub idles_unique : (r r' : Coded) → r ≡ idle_coded → r' ≡ idle_coded → r ≡ r'
idles_unique r r' p q = p ∙ sym q

pub low_power_unique : (r r' : Coded) → r ≡ low_power_coded → r' ≡ low_power_coded → r ≡ r'
low_power_unique r r' p q = p ∙ sym q
