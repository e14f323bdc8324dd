-- Any two answers that meet a public function's promise are equal. Assumes nothing.
use Prim.Native.Nat.{ℕ, ◌+◌, ◌*◌}
use mathlib.Core.Bool.{Bool, cond}
use mathlib.Core.Path.{◌≡◌, sym, ◌∙◌}
use mathlib.Core.List.{List, ◌++◌}
use lib.ListN.{length, drop}
use Rattle.std.specs.Prelude.{Result}
use Rattle.refusals.specs.Number.{number_of}
use Rattle.refusals.specs.Refused.{verdict_of}
use Rattle.refusals.specs.declared.Refused.{Refused}
use Rattle.lent_words.specs.Words.{result_of, flag_word, word_bytes, too_short, summary_with}

pub refusal_unique : (refused : Refused) (r r' : ℕ) → r ≡ number_of refused.0 + 256 * refused.1 → r' ≡ number_of refused.0 + 256 * refused.1 → r ≡ r'
refusal_unique refused r r' p q = p ∙ sym q

pub result_of_unique : (answer : Result Unit Refused) (r r' : ℕ) → r ≡ result_of (verdict_of answer) → r' ≡ result_of (verdict_of answer) → r ≡ r'
result_of_unique answer r r' p q = p ∙ sym q

pub put_words_unique : (summary words r r' : List ℕ) → r ≡ word_bytes 8 words ++ drop (8 * length words) summary → r' ≡ word_bytes 8 words ++ drop (8 * length words) summary → r ≡ r'
put_words_unique summary words r r' p q = p ∙ sym q

pub told_unique : (summary words : List ℕ) (r r' : ℕ) (after after' : List ℕ)
    → (r ≡ cond (too_short 8 (length words) (length summary)) 4 0) × (after ≡ summary_with (length words) words summary)
    → (r' ≡ cond (too_short 8 (length words) (length summary)) 4 0) × (after' ≡ summary_with (length words) words summary) → (r ≡ r') × (after ≡ after')
told_unique summary words r r' after after' p q = (p.0 ∙ sym q.0, p.1 ∙ sym q.1)

pub flag_unique : (b : Bool) (r r' : ℕ) → r ≡ flag_word b → r' ≡ flag_word b → r ≡ r'
flag_unique b r r' p q = p ∙ sym q
