-- A reviewer can skip this file: what the loop over all groups promises.
use Rattle.std.specs.Prelude.{ℕ, ◌*◌, ◌/◌, ◌≡◌, List, ◌++◌, length, drop}
use Rattle.bits.specs.Bits.{stream_bit, cut}
use Rattle.block.specs.declared.Edition.{Edition}
use Rattle.block.specs.Block.{vector_list}
use Rattle.transmit.specs.Send.{sent_blocks, line_words}
use Rattle.transmit.specs.declared.Sender.{Sender}
use Rattle.transmit.specs.Steps.{SentAs}

-- All vectors of these bytes from where s stands: their line at the start of the room, and where sending then stands.
abbrev pub words_for : Edition → Sender → List (List ℕ) → List ℕ
words_for ed s vectors = line_words s.history (sent_blocks ed s.diagram vectors)

pub record SentInto (ed : Edition) (s : Sender) (bytes before after : List ℕ) (r : Sender) : Type 0 where
  pub sends : SentAs ed s (vector_list bytes) (words_for ed s (vector_list bytes)) r
  pub room :
      after
      ≡ cut 8 (stream_bit 66 (words_for ed s (vector_list bytes))) (33 * (length bytes / 40)) ++ drop (33 * (length bytes / 40)) before
