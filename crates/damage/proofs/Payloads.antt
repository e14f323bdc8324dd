-- The payloads that a fresh receiver descrambles of a damaged line, from the second block on: each bit beside the bit that was sent.
use mathlib.Core.Path.{◌≡◌, sym, ap, ap₂, ◌∙◌, subst}
use mathlib.Core.List.{List, [], ◌∷◌}
use Prim.Native.Nat.{ℕ, zero, suc, ◌+◌, ◌*◌, ◌/◌, ◌%◌, ◌^◌, ◌≤◌, ◌<◌}
use native.Mathlib.Omega.{arith}
use native.Mathlib.Nat.{add_comm, le_trans}
use lib.ListN.{length, get_or, length-map}
use Rattle.bits.specs.Bits.{bit, total, stream_bit}
use Rattle.bits.proofs.Laws.{total_below, total_mono}
use Rattle.register.specs.Register.{flip}
use Rattle.scrambler.specs.Scrambler.{descrambled_all}
use Rattle.scrambler.proofs.Laws.{stream_flips, changed_few}
use Rattle.line.specs.declared.Block.{Block}
use Rattle.block.specs.Distance.{Near, differing}
use Rattle.demands.proofs.Line.{AllFit}
use Rattle.demands.proofs.Descrambling.{payloads_descrambled, line_blocks, length_line, late_start}
use Rattle.damage.specs.Damage.{payload_bit, flips_before}
use Rattle.damage.proofs.Flipped.{flips_split, flips_seen}
use Rattle.damage.proofs.Blocks.{flipped_blocks, flipped_length, flipped_payloads, map_at, payloads}

-- bit i of payload k is payload bit 64 k + i
stream_at : (xs : List ℕ) (k i : ℕ) → i < 64 → stream_bit 64 xs (64 * k + i) ≡ bit (get_or xs k 0) i
unfolding stream_bit
stream_at xs k i l =
    let d : (64 * k + i) / 64 ≡ k = omega arith in
    let m : (64 * k + i) % 64 ≡ i = omega arith in
    ap₂ (λ (x y : ℕ). bit (get_or xs x 0) y) d m

-- of the line as it was sent each payload from the second on is the one that was sent
undamaged : (h : ℕ) → h < 2 ^ 58 → (bs : List Block) → AllFit bs → (z : Block) (k : ℕ) → 0 < k → k < length bs
    → get_or (descrambled_all (payloads (line_blocks h bs)) 0) k 0 ≡ (get_or bs k z).payload
undamaged h hb [] fits z k p l = absurd (omega arith)
undamaged h hb (b ∷ bs) fits z zero p l = absurd (omega arith)
undamaged h hb (b ∷ bs) fits z (suc k) p l =
    ap (λ (ps : List ℕ). get_or ps (suc k) 0)
    (sym (payloads_descrambled 0 (line_blocks h (b ∷ bs))) ∙ ap payloads (late_start h 0 hb (omega arith) b bs fits.1))
    ∙ map_at (λ (c : Block). c.payload) bs z k (omega arith)

module _ (f : ℕ → ℕ) (fb : (n : ℕ) → f n < 2) (h : ℕ) (hb : h < 2 ^ 58) (bs : List Block) (fits : AllFit bs) where
  -- the blocks on the line, and those of the damaged line
  abbrev on_line : List Block
  on_line = line_blocks h bs

  abbrev came : List Block
  came = flipped_blocks f on_line

  -- what is descrambled of block k of the damaged line
  abbrev pub read_payload : ℕ → ℕ
  read_payload k = get_or (descrambled_all (payloads came) 0) k 0

  -- as many payloads come as were sent
  sizes : length (payloads came) ≡ length (payloads on_line)
  sizes = length-map came (λ (b : Block). b.payload) ∙ flipped_length f on_line ∙ sym (length-map on_line (λ (b : Block). b.payload))

  size : length (payloads on_line) ≡ length bs
  size = length-map on_line (λ (b : Block). b.payload) ∙ length_line h bs

  -- their bits are flipped where the payload bits of the line are
  flipped : (n : ℕ) → n < 64 * length (payloads on_line) → stream_bit 64 (payloads came) n ≡ flip (stream_bit 64 (payloads on_line)) (payload_bit f) n
  flipped n l = flipped_payloads f on_line n (omega (arith, length-map on_line (λ (b : Block). b.payload)))

  -- each bit is xored with the number of flips 0, 39 and 58 payload bits before it
  pub read_bit : (z : Block) (k i : ℕ) → 0 < k → k < length bs → i < 64
      → bit (read_payload k) i ≡ (bit (get_or bs k z).payload i + flips_before f (64 * k + i)) % 2
  read_bit z k i p l m =
      sym (stream_at (descrambled_all (payloads came) 0) k i m)
      ∙ stream_flips (payloads on_line) (payloads came) (payload_bit f) (λ n. fb (66 * (n / 64) + 2 + n % 64)) sizes flipped 0 (omega arith) (64 * k + i) (omega (arith, size))
      ∙ ap₂ (λ (x y : ℕ). (x + y) % 2)
      (stream_at (descrambled_all (payloads on_line) 0) k i m ∙ ap (λ (x : ℕ). bit x i) (undamaged h hb bs fits z k p l))
      (flips_seen f (64 * k + i))

  -- in any eight bits of a payload no more bits differ than were flipped
  pub read_near : (most : ℕ) → total f (66 * length bs) ≤ most → (z : Block) (k : ℕ) → 0 < k → k < length bs → Near most (get_or bs k z).payload (read_payload k)
  unfolding differing
  read_near most few z k p l a m =
      le_trans (subst (λ (n : ℕ). n ≤ total (payload_bit f) (64 * k + a + 8)) (sym same) changed) (le_trans enough few)
    where
      changed : total (λ i. (stream_bit 64 (descrambled_all (payloads came) 0) (64 * k + a + i) + stream_bit 64 (descrambled_all (payloads on_line) 0) (64 * k + a + i)) % 2) 8
          ≤ total (payload_bit f) (64 * k + a + 8)
      changed =
          changed_few (payloads on_line) (payloads came) (payload_bit f) (λ n. fb (66 * (n / 64) + 2 + n % 64)) sizes flipped 0 (omega arith) (64 * k + a) 8 (omega arith)
          (omega (arith, size))

      enough : total (payload_bit f) (64 * k + a + 8) ≤ total f (66 * length bs)
      enough = omega (arith, total_mono (payload_bit f) (64 * k + a + 8) (64 * length bs) (omega arith), flips_split f (length bs))

      same : total (λ i. (bit (get_or bs k z).payload (a + i) + bit (read_payload k) (a + i)) % 2) 8
          ≡ total (λ i. (stream_bit 64 (descrambled_all (payloads came) 0) (64 * k + a + i) + stream_bit 64 (descrambled_all (payloads on_line) 0) (64 * k + a + i)) % 2) 8
      same =
          total_below _ _ 8
          (λ i q.
          let e : 64 * k + a + i ≡ 64 * k + (a + i) = omega arith in
          ap (λ (x : ℕ). x % 2) (add_comm (bit (get_or bs k z).payload (a + i)) (bit (read_payload k) (a + i)))
          ∙ ap₂ (λ (x y : ℕ). (x + y) % 2)
          (sym (ap (stream_bit 64 (descrambled_all (payloads came) 0)) e ∙ stream_at (descrambled_all (payloads came) 0) k (a + i) (omega arith)))
          (sym
          (ap (stream_bit 64 (descrambled_all (payloads on_line) 0)) e ∙ stream_at (descrambled_all (payloads on_line) 0) k (a + i) (omega arith)
          ∙ ap (λ (x : ℕ). bit x (a + i)) (undamaged h hb bs fits z k p l))))
