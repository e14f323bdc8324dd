-- Each block that is sent for an accepted list is the block of state E, or a block that is not of kind E.
use mathlib.Core.Path.{◌≡◌, refl, sym, ap, ◌∙◌, subst}
use mathlib.Core.Bool.{true}
use mathlib.Core.List.{List, [], ◌∷◌}
use mathlib.Core.Logic.{◌⊎◌, inl, inr}
use Prim.Native.Nat.{ℕ, zero, suc, ◌<◌}
use native.Mathlib.Omega.{arith}
use lib.ListN.{length, get_or}
use Rattle.diagrams.proofs.Laws.{error_any}
use Rattle.line.specs.declared.Block.{Block}
use Rattle.block.specs.declared.Edition.{Edition}
use Rattle.block.specs.Block.{Carrier, block, none, carrier, carrier_kind, vector_kind}
use Rattle.block.specs.declared.Kind.TheVariants.{E}
use Rattle.block.proofs.Sending.{carrier_header, carrier_fits, round_trip}
use Rattle.diagrams.specs.Diagram.{transmit_of}
use Rattle.diagrams.specs.declared.State.{State}
use Rattle.diagrams.specs.declared.State.TheVariants.{Init, Control, Data, Terminate, Error, LowPower}
use Rattle.scrambler.specs.Scrambler.{history_after}
use Rattle.transmit.specs.Send.{error_block, own_block, block_in, sent_blocks}
use Rattle.demands.proofs.Octets.{octets}
use Rattle.demands.proofs.Sent.{Vector, Vectors}
use Rattle.demands.proofs.Descrambling.{line_blocks}
use Rattle.damage.proofs.Headers.{Headers}
use Rattle.damage.proofs.Answers.{error_or_not}
use Rattle.damage.proofs.OneBlock.{Sent}

module _ (ed : Edition) where
  -- the block of state E
  error_sent : Sent ed error_block
  error_sent = record { header_is = inr refl; payload_lt = omega arith; error_or_valid = inl refl }

  -- the own block of a vector that is not of kind E
  own_sent : (v : List ℕ) → Vector v → (vector_kind ed v ≡ E → ⊥) → Sent ed (own_block (carrier ed v))
  unfolding vector_kind
  own_sent v w n = go (carrier ed v) refl
    where
      go : (c : Carrier) → carrier ed v ≡ c → Sent ed (own_block c)
      go (block k h x) e =
          record {
            header_is = carrier_header ed v k h x e;
            payload_lt = carrier_fits ed v k h x e;
            error_or_valid = inr
                (λ q.
                n
                (ap carrier_kind e ∙ sym (round_trip ed v k h x w.ten (octets ed v k h x e w.ten w.low w.high) w.low w.high e).0
                ∙ q));
          }
      go none e = absurd (n (ap carrier_kind e))

  -- the block that is sent for a vector, from any state
  block_sent : (s : State) (v : List ℕ) → Vector v → Sent ed (block_in ed (transmit_of s (vector_kind ed v)) v)
  unfolding block_in
  block_sent s v w = go (error_or_not (vector_kind ed v))
    where
      in_state : (t : State) → (vector_kind ed v ≡ E → ⊥) → Sent ed (block_in ed t v)
      in_state Init n = own_sent v w n
      in_state Control n = own_sent v w n
      in_state Data n = own_sent v w n
      in_state Terminate n = own_sent v w n
      in_state Error n = error_sent
      in_state LowPower n = own_sent v w n

      go : (vector_kind ed v ≡ E) ⊎ (vector_kind ed v ≡ E → ⊥) → Sent ed (block_in ed (transmit_of s (vector_kind ed v)) v)
      go (inl e) = subst (λ (t : State). Sent ed (block_in ed t v)) (sym (ap (transmit_of s) e ∙ error_any s true)) error_sent
      go (inr n) = in_state (transmit_of s (vector_kind ed v)) n

  -- ---- all of them

  -- every block is one that is sent
  abbrev pub AllSent : List Block → Type 0
  AllSent [] = Unit
  AllSent (b ∷ bs) = Sent ed b × AllSent bs

  -- the blocks of a list of vectors
  pub blocks_sent : (s : State) (vs : List (List ℕ)) → Vectors vs → AllSent (sent_blocks ed s vs)
  unfolding sent_blocks
  blocks_sent s [] w = tt
  blocks_sent s (v ∷ vs) w = (block_sent s v w.0, blocks_sent (transmit_of s (vector_kind ed v)) vs w.1)

  -- block k of them
  pub sent_at : (bs : List Block) (z : Block) → AllSent bs → (k : ℕ) → k < length bs → Sent ed (get_or bs k z)
  sent_at [] z a k l = absurd (omega arith)
  sent_at (b ∷ bs) z a zero l = a.0
  sent_at (b ∷ bs) z a (suc k) l = sent_at bs z a.1 k (omega arith)

  -- on the line they have the headers that they were sent with
  pub line_headers : (h : ℕ) (bs : List Block) → AllSent bs → Headers (line_blocks h bs)
  unfolding line_blocks
  line_headers h [] a = tt
  line_headers h (b ∷ bs) a = (a.0.header_is, line_headers (history_after b.payload h) bs a.1)
