-- Any two answers that meet a public function's promise are equal.
use mathlib.Core.Path.{◌≡◌, sym, ◌∙◌}
use mathlib.Core.Bool.{Bool, cond}
use Rattle.block.specs.declared.Class.{Class}
use Rattle.receiving.specs.declared.Counts.{Counts}
use Rattle.receiving.specs.declared.Handed.{Handed}
use Rattle.receiving.specs.declared.Held.{Held}
use Rattle.receiving.specs.Counted.{counted, decoded_out, replaced_out}
use Rattle.receiving.specs.Loop.{tested_in}

pub count_block_unique : (c : Counts) (h : Held) (r r' : Counts) → r ≡ counted c (tested_in h) → r' ≡ counted c (tested_in h) → r ≡ r'
count_block_unique c h r r' p q = p ∙ sym q

pub count_vector_unique : (n : Handed) (class : Class) (decoded : Bool) (r r' : Handed)
    → r ≡ cond decoded (decoded_out n class) (replaced_out n) → r' ≡ cond decoded (decoded_out n class) (replaced_out n) → r ≡ r'
count_vector_unique n class decoded r r' p q = p ∙ sym q
