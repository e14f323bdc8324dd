-- `lent_words::put_words` meets its contract, word by word. Assumes nothing.
use Rattle.lent_words.proofs.Laws.{Put}
use Rattle.lent_words.proofs.put_words.Given as goal

abbrev pub invariant-loop-i : goal.invariant-loop-i
invariant-loop-i l = Put l.initial.summary l.words l.summary l.i
