-- Any two answers that meet a promise are equal.
use Prim.Native.Nat.{ℕ}
use mathlib.Core.Path.{◌≡◌, sym, ◌∙◌}
use mathlib.Core.Bool.{Bool}
use mathlib.Core.List.{List}
use Rattle.frames.specs.Frames.{quiet, starts}
use Rattle.frames.specs.Words.{nth_word}

pub nth_word_unique : (bytes : List ℕ) (k : ℕ) (r r' : List ℕ) → r ≡ nth_word bytes k → r' ≡ nth_word bytes k → r ≡ r'
nth_word_unique bytes k r r' p q = p ∙ sym q

pub is_quiet_unique : (word : List ℕ) (r r' : Bool) → r ≡ quiet word → r' ≡ quiet word → r ≡ r'
is_quiet_unique word r r' p q = p ∙ sym q

pub has_start_unique : (word : List ℕ) (r r' : Bool) → r ≡ starts word → r' ≡ starts word → r ≡ r'
has_start_unique word r r' p q = p ∙ sym q
