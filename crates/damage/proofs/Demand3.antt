-- Demand 3, proved over the definitions. Assumes nothing.
use mathlib.Core.Path.{◌≡◌, refl, sym, ap, ap₂, ◌∙◌, subst, subst₂}
use mathlib.Core.Bool.{true, false}
use mathlib.Core.List.{List, [], ◌∷◌, map}
use mathlib.Core.Logic.{◌⊎◌, inl, inr}
use Prim.Native.Nat.{ℕ, zero, suc, ◌+◌, ◌*◌, ◌/◌, ◌%◌, ◌^◌, ◌≤◌, ◌<◌}
use native.Mathlib.Omega.{arith}
use lib.Dec.{T}
use lib.ListN.{length, get_or}
use borrow.Author.Tests.{le-leb}
use Rattle.block.proofs.Vectors.{length_vectors}
use Rattle.transmit.proofs.Laws.{length_blocks}
use Rattle.bits.specs.Bits.{bit, total, stream_bit, cut}
use Rattle.bits.proofs.Laws.{bit_lt, length_cut, odd_exactly}
use Rattle.scrambler.specs.Scrambler.{history_after, mirror}
use Rattle.scrambler.proofs.Laws.{mirror_lt}
use Rattle.line.specs.declared.Block.{Block}
use Rattle.line.specs.BlockNumber.{block_number}
use Rattle.block.specs.declared.Edition.{Edition}
use Rattle.block.specs.declared.Edition.TheVariants.{Old, New}
use Rattle.block.specs.Block.{edition_of, kind_of, decoded, lane_of, vector_list}
use Rattle.block.specs.declared.Kind.{Kind}
use Rattle.block.specs.declared.Kind.TheVariants.{E}
use Rattle.block.specs.declared.Reason.TheVariants.{BlockType}
use Rattle.block.specs.declared.Class.TheVariants.{Bad}
use Rattle.bits.proofs.Tests.{all}
use Rattle.block.proofs.Near.{apart, four_apart, two_apart}
use Rattle.diagrams.specs.declared.State.TheVariants.{Init}
use Rattle.transmit.specs.Send.{error_block, sent_blocks, blocks_for, line_words, sent_line}
use Rattle.receiving.specs.Machine.{Tested, link_fresh}
use Rattle.receiving.specs.Receive.{answers, vectors_of}
use Rattle.receiving.specs.Answer.{summary_of}
use Rattle.demands.specs.Words.{SendAccepts, Unbroken}
use Rattle.demands.proofs.Line.{AllFit}
use Rattle.demands.proofs.Runs.{tested_all, valids, length_tested}
use Rattle.demands.proofs.Lock.{FirstValid, invalids, Locks, lock_by_64, locked_at}
use Rattle.demands.proofs.Fresh.{length_answers, fresh_vectors, fresh_summary}
use Rattle.demands.proofs.Descrambling.{line_blocks, line_words_lem, length_line, line_fits}
use Rattle.demands.proofs.Sent.{sent_fit}
use Rattle.demands.proofs.Accepted.{four_each, vectors_well}
use Rattle.damage.specs.Damage.{damaged, Flips, flips_before}
use Rattle.damage.specs.Demand3.{most_flips, sent_vector, place, SameControl, DataByFlips, Answered, Survived, Demand3}
use Rattle.damage.proofs.Flipped.{header_flips, flips_split}
use Rattle.damage.proofs.Blocks.{flipped_block, flipped_blocks, flipped_length, flipped_at, flipped_fits, damaged_line}
use Rattle.damage.proofs.Headers.{Header, damaged_header, few_invalid, first_valid}
use Rattle.damage.proofs.Answers.{ErrorOr, answer_at, TestedAs, tested_at}
use Rattle.damage.proofs.OneBlock.{one_block}
use Rattle.damage.proofs.Payloads.{read_payload, read_bit, read_near}
use Rattle.damage.proofs.SentBlocks.{AllSent, blocks_sent, sent_at, line_headers}

-- block k has on the line the header that it was sent with
on_line_lem : (h : ℕ) (bs : List Block) (z : Block) (k : ℕ) → k < length bs → (get_or (line_blocks h bs) k z).header ≡ (get_or bs k z).header
unfolding line_blocks
on_line_lem h [] z k l = absurd (omega arith)
on_line_lem h (b ∷ bs) z zero l = refl
on_line_lem h (b ∷ bs) z (suc k) l = on_line_lem (history_after b.payload h) bs z k (omega arith)

-- no block
abbrev untested : Tested
untested = record { on = false; slipped = false; class = Bad BlockType; vector = [] }

-- ---- blocks that were sent, with at most `most` flips on their line, where the types and the codes are more than `most` bits apart

module _ (ed : Edition) (most : ℕ) (far : T (all (apart ed most))) (small : most < 16) (h : ℕ) (hb : h < 2 ^ 58) (bs : List Block) (fits : AllFit bs) (sent : AllSent ed bs)
    (groups : ℕ) (four : length bs ≡ 4 * groups) (f : ℕ → ℕ) (flips : Flips most (cut 8 (stream_bit 66 (line_words h bs)) (33 * groups)) f) where
  -- the line that was sent
  abbrev line : List ℕ
  line = cut 8 (stream_bit 66 (line_words h bs)) (33 * groups)

  -- the blocks that come
  abbrev came : List Block
  came = flipped_blocks f (line_blocks h bs)

  -- as many come as were sent
  count : length came ≡ length bs
  count = flipped_length f (line_blocks h bs) ∙ length_line h bs

  -- the bits of the line are those of its blocks
  bits : 8 * length line ≡ 66 * length bs
  bits = omega (arith, length_cut 8 (33 * groups) (stream_bit 66 (line_words h bs)))

  -- so the premises on the flips hold block by block
  few_flips : total f (66 * length bs) ≤ most
  few_flips = subst (λ (n : ℕ). total f n ≤ most) bits flips.few

  header_flips_lem : (k : ℕ) → k < length bs → header_flips f k ≤ 1
  header_flips_lem k l = flips.headers k (omega (arith, bits))

  -- fewer than 16 headers are invalid
  few_headers : invalids (valids came) < 16
  few_headers =
      omega (
        arith,
        few_invalid ed f (line_blocks h bs) flips.bits (line_headers ed h bs sent) (λ k l. header_flips_lem k (omega (arith, length_line h bs))),
        ap (total (header_flips f)) (length_line h bs),
        flips_split f (length bs),
        few_flips,
      )

  -- the damaged line is the line of the blocks that come
  line_is : damaged line f ≡ cut 8 (stream_bit 66 (map block_number came)) (33 * groups)
  line_is =
      ap (λ (ws : List ℕ). damaged (cut 8 (stream_bit 66 ws) (33 * groups)) f) (line_words_lem h bs)
      ∙ damaged_line f (line_blocks h bs) groups (line_fits h bs fits) (length_line h bs ∙ four)

  module _ (long : 63 < length bs) where
    -- the first 64 headers are valid
    first_headers : FirstValid 64 (valids came)
    first_headers = first_valid ed 64 f (line_blocks h bs) flips.bits (line_headers ed h bs sent) (omega (arith, length_line h bs)) flips.late

    -- Each block is tested at its own place, with no slip; the receiver locks at block 63, never loses lock and is never high.
    pub damaged_locks : Locks 63 (link_fresh ed) came
    damaged_locks = lock_by_64 ed came first_headers few_headers

    -- so it is summed up at the end
    pub damaged_summary : Unbroken (length bs) (summary_of ed (damaged line f))
    damaged_summary =
        subst₂ (λ (n : ℕ) (l : List ℕ). Unbroken n (summary_of ed l)) count (sym line_is)
        (fresh_summary ed came groups (flipped_fits f (line_blocks h bs)) (count ∙ four) first_headers few_headers)

    -- the vectors are those of the blocks that come
    pub damaged_vectors : vectors_of ed (damaged line f) ≡ answers Init (tested_all (link_fresh ed) came)
    damaged_vectors = ap (vectors_of ed) line_is ∙ fresh_vectors ed came groups (flipped_fits f (line_blocks h bs)) (count ∙ four) first_headers few_headers

    module _ (k : ℕ) (late : 63 ≤ k) (inside : k < length bs) where
      -- block k as it was sent, and the header and the payload that are read of it
      abbrev b : Block
      b = get_or bs k error_block

      abbrev header : ℕ
      header = (get_or came k error_block).header

      abbrev payload : ℕ
      payload = read_payload f flips.bits h hb bs fits k

      -- the header is the one that was sent, or the block is of kind E
      header_came : (header ≡ b.header) ⊎ ((x : ℕ) → kind_of ed header x ≡ E)
      header_came =
          let c : Block = get_or (line_blocks h bs) k error_block in
          let e : c.header ≡ b.header = on_line_lem h bs error_block k inside in
          let z : 66 * k + 0 ≡ 66 * k = omega arith in
          let g : ℕ → ℕ = λ i. f (66 * k + i) in
          subst (λ (r : ℕ). (r ≡ b.header) ⊎ ((x : ℕ) → kind_of ed r x ≡ E))
          (sym (ap (λ (d : Block). d.header) (flipped_at f (line_blocks h bs) error_block k (omega (arith, length_line h bs)))))
          (subst (λ (r : ℕ). ((flipped_block g c).header ≡ r) ⊎ ((x : ℕ) → kind_of ed (flipped_block g c).header x ≡ E)) e
          (damaged_header ed g c (λ n. flips.bits (66 * k + n)) (subst Header (sym e) (sent_at ed bs error_block sent k inside).header_is)
          (subst (λ (n : ℕ). f n + f (66 * k + 1) ≤ 1) (sym z) (header_flips_lem k inside))
          ).same_or_error)

      -- the answer is the error vector, or what was decoded of it
      answered : ErrorOr (kind_of ed header payload) (decoded ed header payload) (get_or (vectors_of ed (damaged line f)) k [])
      answered =
          let ts : List Tested = tested_all (link_fresh ed) came in
          let r : TestedAs ed header payload (get_or ts k untested) = tested_at (link_fresh ed) came error_block untested k (omega (arith, count)) in
          let on : (get_or ts k untested).on ≡ true =
          locked_at 63 (link_fresh ed) came untested (omega (arith, count)) damaged_locks k (omega (arith, count)) ∙ le-leb 63 k late in
          subst (λ (vs : List (List ℕ)). ErrorOr (kind_of ed header payload) (decoded ed header payload) (get_or vs k [])) (sym damaged_vectors)
          (subst₂ (λ (q : Kind) (v : List ℕ). ErrorOr q v (get_or (answers Init ts) k [])) r.0 r.1
          (answer_at Init ts untested k (omega (arith, length_tested (link_fresh ed) came, count)) on))

      -- what was decoded of a block that is not of kind E is as it was sent
      as_sent : (kind_of ed header payload ≡ E → ⊥) → SameControl (sent_vector ed b) (decoded ed header payload) × DataByFlips ed f k b (decoded ed header payload)
      as_sent n =
          let w =
          one_block ed most b header payload far (sent_at ed bs error_block sent k inside) header_came
          (read_near f flips.bits h hb bs fits most few_flips error_block k (omega arith) inside) n in (
            w.0,
            λ p j lp lj z.
                let d = w.1 p j lp lj z in
                let e : 64 * k + (place b p + j) ≡ 64 * k + place b p + j = omega arith in
                odd_exactly (bit (lane_of (decoded ed header payload) p) j) (bit (lane_of (sent_vector ed b) p) j) (flips_before f (64 * k + place b p + j))
                (bit_lt (lane_of (sent_vector ed b) p) j)
                (d.1 ∙ read_bit f flips.bits h hb bs fits error_block k (place b p + j) (omega arith) inside d.2
                ∙ ap₂ (λ (x y : ℕ). (x + flips_before f y) % 2) (sym d.0) e),
          )

      -- so vector k is as the demand has it
      vector_k : Answered ed f k b (get_or (vectors_of ed (damaged line f)) k [])
      vector_k = go answered
        where
          go : ErrorOr (kind_of ed header payload) (decoded ed header payload) (get_or (vectors_of ed (damaged line f)) k []) → Answered ed f k b (get_or (vectors_of ed (damaged line f)) k [])
          go (inl e) = inl e
          go (inr a) =
              inr (subst (λ (v : List ℕ). SameControl (sent_vector ed b) v × DataByFlips ed f k b v) (sym a.0) (as_sent a.1))

  -- what the demand says of these blocks
  pub survived : Survived ed f bs (vectors_of ed (damaged line f))
  survived =
      record {
        one_each = λ long. ap length (damaged_vectors long) ∙ length_answers Init (tested_all (link_fresh ed) came) ∙ length_tested (link_fresh ed) came ∙ count;
        from_63 = λ k late inside. vector_k (omega arith) k late inside;
      }

-- ---- the demand, for any number of flips below 16 that the distances of the types and of the codes exceed

module _ (edition most : ℕ) (far : T (all (apart (edition_of edition) most))) (small : most < 16) (bytes : List ℕ) (start room : ℕ)
    (ok : SendAccepts edition bytes start room) (f : ℕ → ℕ) (flips : Flips most (sent_line (edition_of edition) bytes start) f) where
  -- the edition at both ends
  abbrev ed : Edition
  ed = edition_of edition

  -- the vectors of the list, and that their blocks are as the laws above want them
  abbrev vs : List (List ℕ)
  vs = vector_list bytes

  sound : AllSent ed (sent_blocks ed Init vs)
  sound = blocks_sent ed Init vs (vectors_well edition bytes start room ok)

  groups : length (sent_blocks ed Init vs) ≡ 4 * (length bytes / 40)
  groups = length_blocks ed Init vs ∙ length_vectors (length bytes / 10) bytes ∙ four_each edition bytes start room ok

  -- The damaged line is tested block by block with no slip, and leaves the receiver locked and not high.
  pub tested : 63 < length (blocks_for ed bytes)
      → Unbroken (length (blocks_for ed bytes)) (summary_of ed (damaged (sent_line ed bytes start) f))
  unfolding sent_line blocks_for
  tested long =
      damaged_summary ed most far small (mirror start) (mirror_lt start) (sent_blocks ed Init vs) (sent_fit ed Init vs) sound (length bytes / 40) groups f flips long

  -- its vectors are those of the blocks that come
  pub vectors_tested : 63 < length (blocks_for ed bytes)
      → vectors_of ed (damaged (sent_line ed bytes start) f) ≡ answers Init (tested_all (link_fresh ed) (flipped_blocks f (line_blocks (mirror start) (blocks_for ed bytes))))
  unfolding sent_line blocks_for
  vectors_tested long =
      damaged_vectors ed most far small (mirror start) (mirror_lt start) (sent_blocks ed Init vs) (sent_fit ed Init vs) sound (length bytes / 40) groups f flips long

  -- and they are as the demand has them
  pub outlived : Survived ed f (blocks_for ed bytes) (vectors_of ed (damaged (sent_line ed bytes start) f))
  unfolding sent_line blocks_for
  outlived =
      survived ed most far small (mirror start) (mirror_lt start) (sent_blocks ed Init vs) (sent_fit ed Init vs) sound (length bytes / 40) groups f flips

-- the demand for that many flips
pub demand_of : (edition most : ℕ) → T (all (apart (edition_of edition) most)) → most < 16 → Demand3 edition most
demand_of edition most far small bytes start room ok f flips = outlived edition most far small bytes start room ok f flips

-- Any two types, and any two codes of one kind, differ in more bits than are flipped: at least four in the old edition, two in the new.
pub more_apart : (ed : Edition) → T (all (apart ed (most_flips ed))) × (most_flips ed < 16)
more_apart Old = (four_apart, omega arith)
more_apart New = (two_apart, omega arith)

pub demand_3 : (edition : ℕ) → Demand3 edition (most_flips (edition_of edition))
demand_3 edition = let m = more_apart (edition_of edition) in demand_of edition (most_flips (edition_of edition)) m.0 m.1
