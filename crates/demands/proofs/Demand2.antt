-- Demand 2, proved over the definitions. Assumes nothing.
use mathlib.Core.Path.{◌≡◌, refl, sym, ap, ap₂, ◌∙◌, subst, subst₂}
use mathlib.Core.Bool.{Bool, true, false, ◌&&◌, false≢true}
use mathlib.Core.List.{List, [], ◌∷◌, ◌++◌, append_assoc, flatten, map}
use Prim.Native.Nat.{ℕ, zero, suc, ◌-◌, ◌*◌, ◌/◌, ◌^◌, ◌<◌}
use native.Mathlib.Omega.{arith}
use lib.ListN.{length, take, drop, replicate, length-drop, take-append-drop}
use lib.Seq.{length-take-le}
use Rattle.block.proofs.Vectors.{length_vectors, drop_vectors}
use Rattle.transmit.proofs.Laws.{length_blocks}
use Rattle.bits.specs.Bits.{stream_bit, cut}
use Rattle.scrambler.specs.Scrambler.{mirror, scrambled, descrambled}
use Rattle.scrambler.proofs.Laws.{mirror_lt}
use Rattle.line.specs.declared.Block.{Block}
use Rattle.line.specs.BlockNumber.{block_number}
use Rattle.block.specs.declared.Edition.{Edition}
use Rattle.block.specs.Block.{edition_of, is_c, vector_kind, local_fault_vector, vector_list}
use Rattle.block.specs.declared.Kind.{Kind}
use Rattle.block.specs.declared.Kind.TheVariants.{D, C, S, T, LI, E}
use Rattle.diagrams.specs.Diagram.{transmit_of, diagram_of, after_idle}
use Rattle.diagrams.specs.declared.State.{State}
use Rattle.diagrams.specs.declared.State.TheVariants.{Init, Control}
use Rattle.transmit.specs.Send.{block_in, sent_blocks, blocks_for, sent_line}
use Rattle.receiving.specs.Machine.{Tested, link_fresh}
use Rattle.receiving.specs.Receive.{answers, received_vectors, vectors_of}
use Rattle.receiving.specs.Answer.{summary_of}
use Rattle.receiving.specs.declared.Link.{Link}
use Rattle.demands.specs.Words.{SendAccepts, legal, legal_from, control_vector, control_vectors, Unbroken}
use Rattle.demands.specs.Demand2.{Returnable, faults, Demand2}
use Rattle.demands.proofs.Line.{AllFit}
use Rattle.demands.proofs.Runs.{tested_all, valids, length_tested}
use Rattle.demands.proofs.Lock.{invalids, FirstValid, Locks, lock_by_64}
use Rattle.demands.proofs.Fresh.{fresh_vectors, fresh_summary}
use Rattle.demands.proofs.Descrambling.{ReadAs, reads, descrambled_blocks, line_blocks, line_words_lem, length_line, line_valids, line_fits, late_start}
use Rattle.demands.proofs.Answers.{Carries, not_locked, unchanged, legal_tail, and_left, and_right}
use Rattle.demands.proofs.Sent.{Vectors, sent_fit, sent_valid, sent_first, carried}
use Rattle.demands.proofs.Accepted.{four_each, ten_each, vectors_well, flat_vectors}

-- ---- what is left of a list after its first vectors

-- a control vector is of kind C
is_control : (k : Kind) → is_c k ≡ true → k ≡ C
is_control D h = absurd (false≢true h)
is_control C h = refl
is_control S h = absurd (false≢true h)
is_control T h = absurd (false≢true h)
is_control E h = absurd (false≢true h)
is_control LI h = absurd (false≢true h)

-- two lists of vectors, one after the other
flat_append : (xs ys : List (List ℕ)) → flatten (xs ++ ys) ≡ flatten xs ++ flatten ys
unfolding flatten
flat_append [] ys = refl
flat_append (x ∷ xs) ys = ap (λ (l : List ℕ). x ++ l) (flat_append xs ys) ∙ sym (append_assoc x (flatten xs) (flatten ys))

module _ (ed : Edition) where
  -- ---- by edition

  -- the first of them is one
  control_one : (n : ℕ) (vs : List (List ℕ)) → control_vectors ed (take (suc n) vs) ≡ true → control_vectors ed (take 1 vs) ≡ true
  unfolding control_vectors
  control_one n [] c = refl
  control_one n (v ∷ vs) c = ap (λ (b : Bool). b && true) (and_left (control_vector ed v) (control_vectors ed (take n vs)) c)

  -- before a control vector the diagram goes on after another one as from its start
  control_again : (vs : List (List ℕ)) → control_vectors ed (take 1 vs) ≡ true → legal_from ed Control vs ≡ legal_from ed Init vs
  unfolding legal_from diagram_of after_idle control_vectors control_vector
  control_again [] c = refl
  control_again (v ∷ vs) c = rw (is_control (vector_kind ed v) (and_left (is_c (vector_kind ed v)) true c))

  -- a legal list that begins with more control vectors than are left out is legal without them
  legal_drop : (n : ℕ) (vs : List (List ℕ)) → control_vectors ed (take (suc n) vs) ≡ true → legal ed vs ≡ true → legal ed (drop n vs) ≡ true
  unfolding control_vectors control_vector diagram_of after_idle
  legal_drop zero vs c l = l
  legal_drop (suc n) [] c l = l
  legal_drop (suc n) (v ∷ vs) c l =
      legal_drop n vs rest (sym (control_again vs (control_one n vs rest)) ∙ after (vector_kind ed v) first (legal_tail ed Init v vs l))
    where
      first : vector_kind ed v ≡ C
      first = is_control (vector_kind ed v) (and_left (is_c (vector_kind ed v)) (control_vectors ed (take (suc n) vs)) c)

      rest : control_vectors ed (take (suc n) vs) ≡ true
      rest = and_right (is_c (vector_kind ed v)) (control_vectors ed (take (suc n) vs)) c

      after : (k : Kind) → k ≡ C → legal_from ed (transmit_of Init k) vs ≡ true → legal_from ed Control vs ≡ true
      after k e h = ap (λ (m : Kind). legal_from ed (transmit_of Init m) vs) (sym e) ∙ h

  -- what is left of the list is carried by what is left of the blocks
  carries_drop : (n : ℕ) (vs : List (List ℕ)) (ts : List Tested) → Carries ed vs ts → Carries ed (drop n vs) (drop n ts)
  carries_drop zero vs ts c = c
  carries_drop (suc n) [] [] c = tt
  carries_drop (suc n) [] (t ∷ ts) c = absurd c
  carries_drop (suc n) (v ∷ vs) [] c = absurd c
  carries_drop (suc n) (v ∷ vs) (t ∷ ts) c = carries_drop n vs ts c.2

  -- ---- every vector of a legal list but the first is read as it was sent, whatever the two histories

  -- every vector but the first is carried by the block tested at its place
  carries_late : (n : ℕ) (l : Link) (h : ℕ) (vs : List (List ℕ)) → l.edition ≡ ed → l.history < 2 ^ 58 → h < 2 ^ 58 → Vectors vs → legal ed vs ≡ true
      → Carries ed (drop (suc n) vs) (drop (suc n) (tested_all l (line_blocks h (sent_blocks ed Init vs))))
  unfolding tested_all line_blocks sent_blocks
  carries_late n l h [] el lb hb w r = tt
  carries_late n l h (v ∷ vs) el lb hb w r = carries_drop n vs _ (carried ed s vs _ w.1 (legal_tail ed Init v vs r) rest.2)
    where
      s : State
      s = transmit_of Init (vector_kind ed v)

      rest : ReadAs ed (record { header = (block_in ed s v).header; payload = descrambled (scrambled (block_in ed s v).payload h) l.history } ∷ sent_blocks ed s vs)
          (tested_all l (line_blocks h (block_in ed s v ∷ sent_blocks ed s vs)))
      rest =
          subst (λ (bs : List Block). ReadAs ed bs (tested_all l (line_blocks h (block_in ed s v ∷ sent_blocks ed s vs))))
          (late_start h l.history hb lb (block_in ed s v) (sent_blocks ed s vs) (sent_fit ed s vs))
          (subst (λ (e : Edition). ReadAs e (descrambled_blocks l.history (line_blocks h (block_in ed s v ∷ sent_blocks ed s vs))) (tested_all l (line_blocks h (block_in ed s v ∷ sent_blocks ed s vs)))) el (reads l (line_blocks h (block_in ed s v ∷ sent_blocks ed s vs))))

-- ---- the theorem

module _ (edition : ℕ) (bytes : List ℕ) (start room : ℕ) (ok : SendAccepts edition bytes start room) (list : Returnable (edition_of edition) (vector_list bytes)) where
  -- the edition at both ends
  abbrev ed : Edition
  ed = edition_of edition

  -- the vectors that are sent
  abbrev vs : List (List ℕ)
  vs = vector_list bytes

  -- the blocks on the line
  abbrev bs : List Block
  bs = line_blocks (mirror start) (sent_blocks ed Init vs)

  -- every block on the line has 66 bits
  fits : AllFit bs
  fits = line_fits (mirror start) (sent_blocks ed Init vs) (sent_fit ed Init vs)

  -- as many blocks as vectors
  count : length bs ≡ length vs
  count = length_line (mirror start) (sent_blocks ed Init vs) ∙ length_blocks ed Init vs

  -- four blocks to a group
  four : length bs ≡ 4 * (length bytes / 40)
  four = count ∙ length_vectors (length bytes / 10) bytes ∙ four_each edition bytes start room ok

  -- the first 64 headers are valid
  first : FirstValid 64 (valids bs)
  first = rw (line_valids (mirror start) (sent_blocks ed Init vs)) (sent_first ed 64 Init vs list.long)

  -- none is invalid
  few : invalids (valids bs) < 16
  few = rw (line_valids (mirror start) (sent_blocks ed Init vs), sent_valid ed Init vs) (omega arith)

  -- the receiver locks with block 63
  locks : Locks 63 (link_fresh ed) bs
  locks = lock_by_64 ed bs first few

  -- the line is made of these blocks
  line_is : sent_line ed bytes start ≡ cut 8 (stream_bit 66 (map block_number bs)) (33 * (length bytes / 40))
  unfolding sent_line blocks_for
  line_is = ap (λ (ws : List ℕ). cut 8 (stream_bit 66 ws) (33 * (length bytes / 40))) (line_words_lem (mirror start) (sent_blocks ed Init vs))

  -- the blocks as they are tested
  abbrev ts : List Tested
  ts = tested_all (link_fresh ed) bs

  -- there are 63 blocks before lock
  long_enough : length (take 63 ts) ≡ 63
  long_enough = length-take-le 63 ts (rw (length_tested (link_fresh ed) bs, count) (omega (arith, list.long)))

  -- from block 63 on the vectors come back
  back : answers Init (drop 63 ts) ≡ drop 63 vs
  back =
      unchanged ed Init (drop 63 vs) (drop 63 ts) (legal_drop ed 63 vs list.starts_with_control list.is_legal) locks.after
      (carries_late ed 62 (link_fresh ed) (mirror start) vs refl (omega arith) (mirror_lt start) (vectors_well edition bytes start room ok) list.is_legal)

  -- the vectors
  vectors_back : vectors_of ed (sent_line ed bytes start) ≡ faults ++ drop 63 vs
  vectors_back =
      ap (vectors_of ed) line_is ∙ fresh_vectors ed bs (length bytes / 40) fits four first few
      ∙ ap (answers Init) (sym (take-append-drop 63 ts))
      ∙ not_locked (take 63 ts) (drop 63 ts) locks.before
      ∙ ap₂ (λ (n : ℕ) (rest : List (List ℕ)). replicate n local_fault_vector ++ rest) long_enough back

  -- the summary
  summary_back : Unbroken (length vs) (summary_of ed (sent_line ed bytes start))
  summary_back =
      subst₂ (λ (n : ℕ) (line : List ℕ). Unbroken n (summary_of ed line)) count (sym line_is) (fresh_summary ed bs (length bytes / 40) fits four first few)

  -- the bytes
  octets_back : received_vectors ed (sent_line ed bytes start) ≡ flatten faults ++ drop 630 bytes
  unfolding received_vectors
  octets_back =
      ap flatten vectors_back ∙ flat_append faults (drop 63 vs)
      ∙ ap (λ (rest : List ℕ). flatten faults ++ rest)
      (ap flatten (drop_vectors 63 (length bytes / 10) bytes (omega (arith, list.long, length_vectors (length bytes / 10) bytes)))
      ∙ flat_vectors (length bytes / 10 - 63) (drop 630 bytes) (rw length-drop (omega (arith, ten_each edition bytes start room ok))))

-- demand 2
pub demand_2 : Demand2
demand_2 edition bytes start room ok list =
    record { vectors = vectors_back edition bytes start room ok list; octets = octets_back edition bytes start room ok list; summary = summary_back edition bytes start room ok list }
