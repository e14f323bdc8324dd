-- The blocks that sending sends: their fields fit, their headers are valid, and read as they were sent they give the vectors back. Assumes nothing.
use mathlib.Core.Path.{◌≡◌, refl, sym, ap, ◌∙◌, subst}
use mathlib.Core.Bool.{true, false, true≢false}
use mathlib.Core.List.{List, [], ◌∷◌}
use mathlib.Core.Logic.{◌⊎◌, inl, inr}
use Prim.Native.Nat.{ℕ, zero, suc, ◌≤◌, ◌<◌}
use native.Mathlib.Omega.{arith}
use lib.ListN.{length, get_or}
use Rattle.diagrams.proofs.Laws.{error_any}
use Rattle.bits.specs.Bits.{bit}
use Rattle.line.specs.declared.Block.{Block}
use Rattle.block.specs.declared.Edition.{Edition}
use Rattle.block.specs.Block.{Carrier, block, none, carrier, vector_kind, kind_of, decoded}
use Rattle.block.proofs.Sending.{carrier_header, carrier_fits, round_trip}
use Rattle.diagrams.specs.Diagram.{transmit_of}
use Rattle.lock.specs.Lock.{invalid_of}
use Rattle.diagrams.specs.declared.State.{State}
use Rattle.diagrams.specs.declared.State.TheVariants.{Init, Control, Data, Terminate, Error, LowPower}
use Rattle.transmit.specs.Send.{error_block, own_block, block_in, sent_blocks}
use Rattle.receiving.specs.Machine.{Tested, valid_of}
use Rattle.demands.specs.Words.{in_error, legal_from}
use Rattle.demands.proofs.Line.{BlockFits, AllFit}
use Rattle.demands.proofs.Runs.{valids}
use Rattle.demands.proofs.Lock.{invalids, FirstValid}
use Rattle.demands.proofs.Octets.{octets}
use Rattle.demands.proofs.Descrambling.{ReadAs}
use Rattle.demands.proofs.Answers.{Carries, legal_head, legal_tail}

-- ---- one block

-- its fields fit, and its header is valid
abbrev FitsAndValid : Block → Type 0
FitsAndValid b = BlockFits b × (valid_of b.header ≡ true)

-- the block of state E
error_sound : FitsAndValid error_block
unfolding valid_of bit
error_sound = ((omega arith, omega arith), refl)

-- the headers 2 and 1
valid_header_lem : (h : ℕ) → (h ≡ 2) ⊎ (h ≡ 1) → (h < 4) × (valid_of h ≡ true)
unfolding valid_of bit
valid_header_lem h (inl e) = (omega arith, ap valid_of e)
valid_header_lem h (inr e) = (omega arith, ap valid_of e)

-- ten bytes, the two control bytes at most 15
pub record Vector (v : List ℕ) : Type 0 where
  pub ten : length v ≡ 10
  pub low : get_or v 0 0 < 16
  pub high : get_or v 5 0 < 16

-- each vector of a list
abbrev pub Vectors : List (List ℕ) → Type 0
Vectors [] = Unit
Vectors (v ∷ vs) = Vector v × Vectors vs

module _ (ed : Edition) where
  -- a vector's own block
  own_sound : (v : List ℕ) → FitsAndValid (own_block (carrier ed v))
  own_sound v = go (carrier ed v) refl
    where
      go : (c : Carrier) → carrier ed v ≡ c → FitsAndValid (own_block c)
      go (block k h x) e = let w = valid_header_lem h (carrier_header ed v k h x e) in ((w.0, carrier_fits ed v k h x e), w.1)
      go none e = error_sound

  -- the block sent in a state
  sent_sound : (s : State) (v : List ℕ) → FitsAndValid (block_in ed s v)
  unfolding block_in
  sent_sound Init v = own_sound v
  sent_sound Control v = own_sound v
  sent_sound Data v = own_sound v
  sent_sound Terminate v = own_sound v
  sent_sound Error v = error_sound
  sent_sound LowPower v = own_sound v

  -- ---- a list of blocks

  -- every block fits
  pub sent_fit : (s : State) (vs : List (List ℕ)) → AllFit (sent_blocks ed s vs)
  unfolding sent_blocks
  sent_fit s [] = tt
  sent_fit s (v ∷ vs) = ((sent_sound (transmit_of s (vector_kind ed v)) v).0, sent_fit (transmit_of s (vector_kind ed v)) vs)

  -- no header is invalid
  pub sent_valid : (s : State) (vs : List (List ℕ)) → invalids (valids (sent_blocks ed s vs)) ≡ 0
  unfolding sent_blocks valids invalids invalid_of
  sent_valid s [] = refl
  sent_valid s (v ∷ vs) = rw (sent_sound (transmit_of s (vector_kind ed v)) v).1 (omega (arith, sent_valid (transmit_of s (vector_kind ed v)) vs))

  -- the first n headers are valid
  pub sent_first : (n : ℕ) (s : State) (vs : List (List ℕ)) → n ≤ length vs → FirstValid n (valids (sent_blocks ed s vs))
  unfolding sent_blocks valids
  sent_first zero s vs h = tt
  sent_first (suc n) s [] h = absurd (omega arith)
  sent_first (suc n) s (v ∷ vs) h = ((sent_sound (transmit_of s (vector_kind ed v)) v).1, sent_first n (transmit_of s (vector_kind ed v)) vs (omega arith))

  -- ---- read as they were sent

  -- in a state other than E the block is the vector's own
  own_block_lem : (s : State) (v : List ℕ) → in_error s ≡ false → block_in ed s v ≡ own_block (carrier ed v)
  unfolding block_in
  own_block_lem Init v h = refl
  own_block_lem Control v h = refl
  own_block_lem Data v h = refl
  own_block_lem Terminate v h = refl
  own_block_lem LowPower v h = refl
  own_block_lem Error v h = absurd (true≢false h)

  -- a block with the kind of a vector, which is decoded to it
  abbrev Gives : Block → List ℕ → Type 0
  Gives b v = (kind_of ed b.header b.payload ≡ vector_kind ed v) × (decoded ed b.header b.payload ≡ v)

  -- a vector that does not lead to E: its block has its kind and is decoded to it
  gives : (s : State) (v : List ℕ) → Vector v → in_error (transmit_of s (vector_kind ed v)) ≡ false → Gives (block_in ed (transmit_of s (vector_kind ed v)) v) v
  unfolding vector_kind
  gives s v w h = subst (λ (b : Block). Gives b v) (sym (own_block_lem (transmit_of s (vector_kind ed v)) v h)) (go (carrier ed v) refl)
    where
      go : (c : Carrier) → carrier ed v ≡ c → Gives (own_block c) v
      go (block k y x) e = let r = round_trip ed v k y x w.ten (octets ed v k y x e w.ten w.low w.high) w.low w.high e in rw e r
      go none e = absurd (true≢false (sym (ap in_error (error_any s true)) ∙ rw e at h))

  -- of a legal list every block is the vector's own, and carries it
  pub carried : (s : State) (vs : List (List ℕ)) (ts : List Tested) → Vectors vs → legal_from ed s vs ≡ true → ReadAs ed (sent_blocks ed s vs) ts → Carries ed vs ts
  unfolding sent_blocks
  carried s [] [] w l r = tt
  carried s [] (t ∷ ts) w l r = absurd r
  carried s (v ∷ vs) [] w l r = absurd r
  carried s (v ∷ vs) (t ∷ ts) w l r =
      let g = gives s v w.0 (legal_head ed s v vs l) in
      (r.0 ∙ g.0, r.1 ∙ g.1, carried (transmit_of s (vector_kind ed v)) vs ts w.1 (legal_tail ed s v vs l) r.2)
