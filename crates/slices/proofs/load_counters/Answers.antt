-- `slices::load_counters` meets its contract, field by field. Assumes nothing.
use Rattle.lent_words.specs.Words.{word_at}
use Rattle.slices.proofs.load_counters.Goals as goal

pub returns : goal.returns
unfolding word_at
returns c =
    λ i. record {
      tested = c.load_half.ensures.0 i;
      slips = c.load_half-2.ensures.0 i;
      headers = c.load_half-3.ensures.0 i;
      types = c.load_half-4.ensures.0 i;
      codes = c.load_half-5.ensures.0 i;
      sets = c.load_half-6.ensures.0 i;
      begun = c.load_half-7.ensures.0 i;
      replaced = c.load_half-8.ensures.0 i;
    }
