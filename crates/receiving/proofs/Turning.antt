-- One turn of a receiver. What is written and counted so far, with what the definition still gives from here, is what it gives of the
-- whole line. Assumes nothing.
use Prim.Native.Nat.{ℕ, suc, ◌+◌, ◌-◌, ◌*◌, ◌≤◌, ◌<◌}
use mathlib.Core.Path.{◌≡◌, refl, sym, ap, ap₂, ◌∙◌, subst}
use mathlib.Core.Bool.{Bool, true, false, cond}
use mathlib.Core.List.{List, [], ◌∷◌, ◌++◌, append_assoc}
use native.Mathlib.Omega.{arith}
use native.Mathlib.Numerals.{add-one}
use lib.ListN.{length, get_or, take, drop, length-append, take-append-drop}
use lib.Seq.{drop-drop, drop-cons, length-take-le}
use Rattle.bits.specs.Bits.{line_bits}
use Rattle.bits.proofs.Lists.{length_line_bits}
use Rattle.std.specs.Prelude.{Some, None}
use Rattle.line.specs.declared.Block.{Block}
use Rattle.carrying.specs.Carrying.{carried_bits, Takes}
use Rattle.carrying.specs.declared.Taken.{Taken}
use Rattle.carrying.proofs.Laws.{length_carried}
use Rattle.lock.specs.Lock.{slips_of}
use Rattle.diagrams.specs.declared.State.{State}
use Rattle.receiving.specs.Machine.{Feed, Run, Tested, run, link_of, tested_of, valid_of, header_of, payload_of}
use Rattle.receiving.specs.Receive.{lets_end, counts_of, handed_of}
use Rattle.receiving.specs.Parts.{plus, plus_handed, settle, bytes_of}
use Rattle.receiving.specs.Counted.{counted, Within, HandedWithin}
use Rattle.receiving.specs.Ranges.{InRange}
use Rattle.receiving.specs.Loop.{tested_in, held_in, feed_in, Upshot, upshot_of, upshot, Under, Turns, held_state, held_bytes, held_handed}
use Rattle.receiving.specs.declared.Link.{Link}
use Rattle.receiving.specs.declared.Held.{Held}
use Rattle.receiving.specs.declared.Counts.{Counts}
use Rattle.receiving.specs.declared.Handed.{Handed}
use Rattle.receiving.specs.declared.Progress.{Progress}
use Rattle.receiving.proofs.Runs.{run_behind, run_fill, run_skip, run_wait}
use Rattle.receiving.proofs.Ranges.{range_next}
use Rattle.receiving.proofs.Counted.{count_more, within_next, within_wide, handed_wide}
use Rattle.receiving.proofs.Settle.{put_take, put_drop, put_length, held_within, settle_bytes, settle_handed, settle_state, settle_held}

-- ---- the run from here, by what is taken

-- a receiver's feed by its parts
unfoldable pub feed_of : List ℕ → Bool → Link → Feed
unfolding feed_in
feed_of bits skip l = record { bits = bits; skip = skip; link = l }

-- one bit that is skipped, or some that wait
wait_run : (B : List ℕ) (pos next : ℕ) (skip : Bool) (c c' : List ℕ) (l : Link) → pos < length B → pos < next → (skip ≡ true → next ≡ pos + 1)
    → c' ≡ cond skip [] (c ++ take (next - pos) (drop pos B)) → length c' < 66
    → run (feed_of c skip l) (drop pos B) ≡ run (feed_of c' false l) (drop next B)
unfolding feed_of
wait_run B pos next true c c' l h past one e few =
    ap (run (feed_of c true l)) (drop-cons B pos 0 h) ∙ run_skip l c (get_or B pos 0) (drop (suc pos) B)
    ∙ ap₂ (λ (x : List ℕ) (n : ℕ). run (feed_of x false l) (drop n B)) (sym e) (sym (one refl ∙ add-one pos))
wait_run B pos next false c c' l h past one e few =
    let X = drop pos B in
    let n = next - pos in
    let m : pos + (next - pos) ≡ next = omega arith in
    let len : length c + length (take (next - pos) (drop pos B)) ≡ length c' = sym (length-append c (take n X)) ∙ sym (ap length e) in
    ap (run (feed_of c false l)) (sym (take-append-drop n X))
    ∙ run_wait l c (take n X) (drop n X) (omega arith)
    ∙ ap₂ (λ (x z : List ℕ). run (feed_of x false l) z) (sym e) (drop-drop n pos B ∙ ap (λ (k : ℕ). drop k B) m)

-- bits that fill a block
pub fill_run : (B : List ℕ) (pos next : ℕ) (c : List ℕ) (l : Link) (h q : ℕ) → pos < next → length c < 66
    → length (c ++ take (next - pos) (drop pos B)) ≡ 66
    → h ≡ header_of (c ++ take (next - pos) (drop pos B))
    → q ≡ payload_of (c ++ take (next - pos) (drop pos B))
    → run (feed_of c false l) (drop pos B)
    ≡ run_behind (tested_of l h q ∷ []) (run (feed_of [] (slips_of l.lock (valid_of h)) (link_of l h q)) (drop next B))
unfolding feed_of
fill_run B pos next c l h q past few whole eh eq =
    let X = drop pos B in
    let n = next - pos in
    let e : pos + (next - pos) ≡ next = omega arith in
    let len : length c + length (take (next - pos) (drop pos B)) ≡ 66 = sym (length-append c (take n X)) ∙ whole in
    ap (run (feed_of c false l)) (sym (take-append-drop n X))
    ∙ run_fill l c (take n X) (drop n X) len (omega arith)
    ∙ ap (λ (z : List ℕ). run_behind (tested_of l (header_of (c ++ take n X)) (payload_of (c ++ take n X)) ∷ []) (run (feed_of [] (slips_of l.lock (valid_of (header_of (c ++ take n X)))) (link_of l (header_of (c ++ take n X)) (payload_of (c ++ take n X)))) z))
    (drop-drop n pos B ∙ ap (λ (k : ℕ). drop k B) e)
    ∙ sym
    (ap₂ (λ (a b : ℕ). run_behind (tested_of l a b ∷ []) (run (feed_of [] (slips_of l.lock (valid_of a)) (link_of l a b)) (drop next B))) eh eq)

-- ---- a turn that tests no block

-- the receiver after the bits
abbrev pub waited : Progress → Taken → Progress
waited p t =
    record {
      receiver =
          record {
            skip = false;
            carried = t.carried;
            link = p.receiver.link;
            state = p.receiver.state;
            have = p.receiver.have;
            held = p.receiver.held;
          };
      pos = t.next;
      at = p.at;
      counts = p.counts;
      handed = p.handed;
    }

module _ (line room : List ℕ) (p : Progress) (u : Under line room p) (here : p.pos < 8 * length line) (t : Taken)
    (k : Takes (line_bits line) p.pos p.receiver.skip p.receiver.carried t) where
  -- nothing changes in what comes of it
  waited_same : t.block ≡ None → upshot line room (waited p t) ≡ upshot line room p
  unfolding upshot held_in feed_in feed_of
  waited_same idle =
      let w = k.waits idle in
      let r = p.receiver in
      let few : length (carried_bits t.carried) < 66 = rw length_carried k.sound.few in
      ap (upshot_of (take p.at room) r.state (held_in r) p.counts p.handed)
      (sym
      (wait_run (line_bits line) p.pos t.next r.skip (carried_bits r.carried) (carried_bits t.carried) r.link (omega (arith, length_line_bits line))
      k.past w.one w.carried few))

  -- so that is a turn
  pub turn_wait : t.block ≡ None → Turns line room room p (waited p t)
  turn_wait idle =
      record {
        under =
            record {
              range = u.range;
              sound = k.sound;
              pos = omega (arith, k.within, length_line_bits line);
              at = u.at;
              fits = subst (λ (o : Upshot). length o.bytes ≤ length room) (sym (waited_same idle)) u.fits;
              counts = within_wide p.counts p.pos t.next u.counts (omega (arith, k.past));
              handed = handed_wide p.handed p.pos t.next u.handed (omega (arith, k.past));
            };
        same = waited_same idle;
        past = k.past;
        grows = omega arith;
        rest = refl;
        len = refl;
      }

-- ---- a turn that tests a block

-- the receiver after the block
abbrev pub moved : Progress → Taken → Link → Held → State → ℕ → Counts → Handed → Progress
moved p t link h s at c n =
    record {
      receiver = record { skip = h.slipped; carried = t.carried; link = link; state = s; have = true; held = h };
      pos = t.next;
      at = at;
      counts = c;
      handed = n;
    }

-- upshots with equal parts
pub upshot_same : (b b' : List ℕ) (s s' : State) (h h' : List Tested) (c c' : Counts) (n n' : Handed) (e : Feed) → b ≡ b' → s ≡ s' → h ≡ h' → c ≡ c' → n ≡ n'
    → ◌≡◌ {A = Upshot} (record { bytes = b; state = s; held = h; counts = c; handed = n; end = e })
    (record { bytes = b'; state = s'; held = h'; counts = c'; handed = n'; end = e })
upshot_same b b' s s' h h' c c' n n' e p q r u v = rw (p, q, r, u, v)

module _ (line room : List ℕ) (p : Progress) (u : Under line room p) (t : Taken)
    (k : Takes (line_bits line) p.pos p.receiver.skip p.receiver.carried t) (b : Block) (full : t.block ≡ Some b) (link : Link) (h : Held)
    (el : link ≡ link_of p.receiver.link b.header b.payload) (eh : tested_in h ≡ tested_of p.receiver.link b.header b.payload) where
  -- what is still to be run over after this block
  left : Run
  unfolding feed_of
  left = run (feed_of (carried_bits t.carried) h.slipped link) (drop t.next (line_bits line))

  -- whether it slips is the lock's to say
  slipped_is : h.slipped ≡ slips_of p.receiver.link.lock (valid_of b.header)
  unfolding tested_in tested_of
  slipped_is = ap (λ (x : Tested). x.slipped) eh

  -- the run from here: this block, and what is left
  block_run : run (feed_in p.receiver) (drop p.pos (line_bits line)) ≡ run_behind (tested_in h ∷ []) left
  unfolding feed_in feed_of left
  block_run =
      let f = k.fills b full in
      let r = p.receiver in
      let few : length (carried_bits r.carried) < 66 = rw length_carried u.sound.few in
      ap (λ (b : Bool). run (feed_of (carried_bits r.carried) b r.link) (drop p.pos (line_bits line))) f.kept
      ∙ fill_run (line_bits line) p.pos t.next (carried_bits r.carried) r.link b.header b.payload k.past few f.whole f.header f.payload
      ∙ rw (← eh, f.none, slipped_is, el)

  -- the bytes of the block held
  abbrev bytes : List ℕ
  bytes = held_bytes p.receiver.have p.receiver.state p.receiver.held (lets_end (tested_in h))

  -- the state after it
  abbrev after_held : State
  after_held = held_state p.receiver.have p.receiver.state p.receiver.held (lets_end (tested_in h))

  -- what is still to be written starts with them
  bytes_are : (upshot line room p).bytes ≡ take p.at room ++ (bytes ++ bytes_of (settle after_held (tested_in h ∷ left.tested)).judged)
  unfolding upshot held_in
  bytes_are =
      ap (λ (r : Run). take p.at room ++ bytes_of (settle p.receiver.state (held_in p.receiver ++ r.tested)).judged) block_run
      ∙ ap (λ (l : List ℕ). take p.at room ++ l)
      (settle_bytes p.receiver.state p.receiver.held (tested_in h) left.tested p.receiver.have)

  -- the vector of the block held fits the room
  pub held_fits : p.at + length bytes ≤ length room
  held_fits =
      let later = bytes_of (settle after_held (tested_in h ∷ left.tested)).judged in
      omega (arith, ap length bytes_are, length-append (take p.at room) (bytes ++ later), length-append bytes later, length-take-le p.at room u.at, u.fits)

  module _ (s : State) (at : ℕ) (c : Counts) (room' : List ℕ) (es : s ≡ after_held) (ea : at ≡ p.at + length bytes)
      (er : room' ≡ take p.at room ++ (bytes ++ drop (p.at + length bytes) room)) (n : Handed)
      (en : n ≡ held_handed p.receiver.have p.handed p.receiver.state p.receiver.held (lets_end (tested_in h))) (ec : c ≡ counted p.counts (tested_in h)) where
    -- what is written now
    taken_is : take at room' ≡ take p.at room ++ bytes
    taken_is = ap₂ take ea er ∙ put_take room bytes p.at held_fits

    -- nothing changes in what comes of it
    moved_same : upshot line room' (moved p t link h s at c n) ≡ upshot line room p
    unfolding upshot held_in feed_in feed_of left
    moved_same =
        let r = p.receiver in
        let ts = left.tested in
        let later = bytes_of (settle after_held (tested_in h ∷ ts)).judged in
        upshot_same _ _ _ _ _ _ _ _ _ _ left.end
        (ap₂ (λ (x : List ℕ) (z : State). x ++ bytes_of (settle z (tested_in h ∷ ts)).judged) taken_is es
        ∙ append_assoc (take p.at room) bytes later
        ∙ ap (λ (l : List ℕ). take p.at room ++ l) (sym (settle_bytes r.state r.held (tested_in h) ts r.have)))
        (ap (λ (z : State). (settle z (tested_in h ∷ ts)).state) es ∙ sym (settle_state r.state r.held (tested_in h) ts r.have))
        (ap (λ (z : State). (settle z (tested_in h ∷ ts)).held) es ∙ sym (settle_held r.state r.held (tested_in h) ts r.have))
        (ap (λ (z : Counts). plus z (counts_of ts)) ec ∙ count_more p.counts (tested_in h) ts)
        (ap₂ (λ (z : Handed) (x : State). plus_handed z (handed_of (settle x (tested_in h ∷ ts)).judged)) en es
        ∙ settle_handed r.state r.held (tested_in h) ts p.handed r.have)
        ∙ sym (ap (upshot_of (take p.at room) r.state (held_in r) p.counts p.handed) block_run)

    -- the room is as long as it was
    len_is : length room' ≡ length room
    len_is = ap length er ∙ put_length room bytes p.at held_fits

    -- so that is a turn
    pub turn_block : Turns line room room' p (moved p t link h s at c n)
    turn_block =
        record {
          under =
              record {
                range = subst InRange (sym el) (range_next p.receiver.link b.header b.payload u.range);
                sound = k.sound;
                pos = omega (arith, k.within, length_line_bits line);
                at = omega (arith, ea, held_fits, len_is);
                fits = omega (arith, len_is, ap (λ (o : Upshot). length o.bytes) moved_same, u.fits);
                counts = subst (Within t.next) (sym ec) (within_next p.counts (tested_in h) p.pos t.next u.counts k.past);
                handed = subst (HandedWithin t.next) (sym en) (held_within p.receiver.have p.handed p.receiver.state p.receiver.held (lets_end (tested_in h)) p.pos t.next u.handed k.past);
              };
          same = moved_same;
          past = k.past;
          grows = omega arith;
          rest = ap₂ drop ea er ∙ put_drop room bytes p.at held_fits ∙ ap (λ (i : ℕ). drop i room) (sym ea);
          len = len_is;
        }
