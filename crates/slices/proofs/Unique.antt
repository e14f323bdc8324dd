-- Any two answers that meet a public function's promise are equal. Assumes nothing.
use Prim.Native.Nat.{ℕ}
use mathlib.Core.Bool.{Bool}
use mathlib.Core.Path.{◌≡◌, sym, ◌∙◌}
use mathlib.Core.List.{List, ◌++◌}
use lib.ListN.{drop, replicate}
use Rattle.receiving.specs.Answer.{received}
use Rattle.receiving.specs.declared.Summary.{Summary}
use Rattle.counters.specs.declared.Counters.{Counters}
use Rattle.lent_words.specs.Words.{word_bytes, summary_with}
use Rattle.slices.specs.Slices.{short_slice, counters_in, counters_with, receive_length, receive_words}

-- two that equal a third
one {ℓ} : {A : Type ℓ} (x r r' : A) → r ≡ x → r' ≡ x → r ≡ r'
one x r r' p q = p ∙ sym q

pub load_counters_unique : (bytes : List ℕ) (r r' : Counters) → r ≡ counters_in bytes → r' ≡ counters_in bytes → r ≡ r'
load_counters_unique bytes r r' p q = one _ r r' p q

pub store_counters_unique : (c : Counters) (bytes r r' : List ℕ) → r ≡ counters_with c bytes → r' ≡ counters_with c bytes → r ≡ r'
store_counters_unique c bytes r r' p q = one _ r r' p q

pub short_slice_unique : (summary counters : ℕ) (r r' : Bool) → r ≡ short_slice summary counters → r' ≡ short_slice summary counters → r ≡ r'
short_slice_unique summary counters r r' p q = one _ r r' p q

pub put_summary_unique : (s : Summary) (summary r r' : List ℕ) → r ≡ word_bytes 8 (receive_words (received s)) ++ drop 96 summary → r' ≡ word_bytes 8 (receive_words (received s)) ++ drop 96 summary → r ≡ r'
put_summary_unique s summary r r' p q = one _ r r' p q

pub clear_unique : (summary r r' : List ℕ) → r ≡ summary_with receive_length (replicate receive_length 0) summary → r' ≡ summary_with receive_length (replicate receive_length 0) summary → r ≡ r'
clear_unique summary r r' p q = one _ r r' p q
