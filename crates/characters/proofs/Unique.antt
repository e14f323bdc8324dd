-- Any two answers that meet a public function's promise are equal.
use mathlib.Core.Path.{◌≡◌, ◌∙◌, sym}
use Prim.Native.Nat.{ℕ}
use Rattle.std.specs.Prelude.{Result}
use Rattle.block.specs.declared.Edition.{Edition}
use Rattle.block.specs.declared.Reason.{Reason}
use Rattle.characters.specs.Octets.{octet_from, four_by}

pub four_unique : (ed : Edition) (places slots x : ℕ) (r r' : Result ℕ Reason)
    → r ≡ four_by (octet_from ed places slots x 0) (octet_from ed places slots x 1) (octet_from ed places slots x 2) (octet_from ed places slots x 3)
    → r' ≡ four_by (octet_from ed places slots x 0) (octet_from ed places slots x 1) (octet_from ed places slots x 2) (octet_from ed places slots x 3)
    → r ≡ r'
four_unique ed places slots x r r' p q = p ∙ sym q
