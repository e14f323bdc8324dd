-- A reviewer can skip this file: what the functions that send one vector promise each other.
use Rattle.std.specs.Prelude.{ℕ, ◌+◌, ◌^◌, ◌<◌, ◌≤◌, true, ◌≡◌, List, [], ◌∷◌}
use Rattle.scrambler.specs.Scrambler.{scrambled, history_after}
use Rattle.scrambler.specs.declared.Scrambled.{Scrambled}
use Rattle.line.specs.BlockNumber.{block_number}
use Rattle.line.specs.declared.Block.{Block}
use Rattle.block.specs.declared.Edition.{Edition}
use Rattle.block.specs.declared.Kind.TheVariants.{C, LI}
use Rattle.block.specs.Block.{carrier}
use Rattle.block.specs.declared.Coded.{Coded}
use Rattle.block.specs.Coded.{coded_of}
use Rattle.diagrams.specs.Diagram.{diagram_of}
use Rattle.diagrams.specs.declared.State.{State}
use Rattle.diagrams.specs.declared.State.TheVariants.{Init, Control, Data, Terminate, Error, LowPower}
use Rattle.transmit.specs.Send.{error_block, replaced_in, state_after, replaced, sent_blocks, line_words, history_over}
use Rattle.transmit.specs.declared.Sender.{Sender}
use Rattle.transmit.specs.declared.Choice.{Choice}
use Rattle.transmit.specs.declared.Step.{Step}

-- the block that is sent in a state, of a vector whose own block is b
abbrev pub chosen_block : State → Block → Block
chosen_block Error b = error_block
chosen_block Init b = b
chosen_block Control b = b
chosen_block Data b = b
chosen_block Terminate b = b
chosen_block LowPower b = b

-- eight idles, and eight low power idles
abbrev pub idle_coded : Coded
idle_coded = record { kind = C; header = 1; payload = 0x1e }

abbrev pub low_power_coded : Coded
low_power_coded = record { kind = LI; header = 1; payload = 0x0c183060c183061e }

-- What goes out for a vector that is encoded as e, from where s stands: the diagram's step, and the block of its state.
pub record Chooses (e : Coded) (s : Sender) (r : Choice) : Type 0 where
  pub diagram : r.diagram ≡ diagram_of s.diagram e.kind true
  pub block : r.block ≡ chosen_block r.diagram (record { header = e.header; payload = e.payload })
  pub count : r.replaced ≡ s.replaced + replaced_in r.diagram
  pub few : r.replaced ≤ s.replaced + 1

-- it went out, scrambled after history h
abbrev pub step_of : Choice → ℕ → Scrambled → Step
step_of c h out =
    record {
      history = h;
      plain = c.block.payload;
      block = record { header = c.block.header; payload = out.word };
      next = record { diagram = c.diagram; history = out.history; replaced = c.replaced };
    }

-- Its payload was scrambled after the history before it, and the history goes on.
pub record Scrambles (r : Step) : Type 0 where
  pub before : r.history < 2 ^ 58
  pub payload : r.block.payload ≡ scrambled r.plain r.history
  pub after : r.next.history ≡ history_after r.plain r.history

-- From where s stands, these vectors go on the line as these words, and sending then stands at r.
pub record SentAs (ed : Edition) (s : Sender) (vectors : List (List ℕ)) (words : List ℕ) (r : Sender) : Type 0 where
  pub diagram : r.diagram ≡ state_after ed s.diagram vectors
  pub history : r.history ≡ history_over s.history (sent_blocks ed s.diagram vectors)
  pub count : r.replaced ≡ s.replaced + replaced ed s.diagram vectors
  pub line : words ≡ line_words s.history (sent_blocks ed s.diagram vectors)

-- One vector from where s stands: its block on the line, with a header of two bits, and where sending then stands.
pub record SentOne (ed : Edition) (s : Sender) (vector : List ℕ) (r : Step) : Type 0 where
  pub sends : SentAs ed s (vector ∷ []) (block_number r.block ∷ []) r.next
  pub header : r.block.header < 4

-- One vector that is encoded as e, from where s stands.
pub record Goes (e : Coded) (s : Sender) (r : Step) : Type 0 where
  pub steps : (ed : Edition) (v : List ℕ) → e ≡ coded_of (carrier ed v) → SentOne ed s v r
  pub scrambles : Scrambles r
  pub history : r.next.history < 2 ^ 58
  pub few : r.next.replaced ≤ s.replaced + 1
